use Rattle.std.proofs.Common.{subst}
use Rattle.std.proofs.lemmas.Result.{on_ok_weaker}
use Rattle.rr_turn.specs.Looks.{MeetsAny}
use Rattle.rr_turn.proofs.hearing.meet_kept.Goals as goal

pub returns : goal.returns
returns g c =
    let gives = g.L.Links.gives in
    let s = c.args.locked.now in
    let k = c.args.chase.now in
    let from = c.args.links.now in
    let t = c.meet_any.new.locked in
    let j = c.meet_any.new.chase in
    let at = c.meet_any.new.links in
    let u = c.meet_any-2.new.locked in
    let i = c.meet_any-2.new.chase in
    let by = c.meet_any-2.new.links in
    let v = c.meet_any-3.new.locked in
    let h = c.meet_any-3.new.chase in
    let to = c.meet_any-3.new.links in
    on_ok_weaker c.meet_any-3.result
    (λ last. record {
      requested = t;
      opened = u;
      decided = v;
      requested_chase = j;
      opened_chase = i;
      requested_at = at;
      opened_at = by;
      request = subst (λ o. MeetsAny gives o s k from t j at) c.request.ensures c.in_ok-meet_any.ensures;
      opening = subst (λ o. MeetsAny gives o t j at u i by) c.opening.ensures c.in_ok-meet_any-2.ensures;
      decision = subst (λ o. MeetsAny gives o u i by v h to) c.decision.ensures last;
    }) c.meet_any-3.ensures
