use Rattle.std.proofs.Common.{[], ◌∷◌, None, Some, refl, subst}
use Rattle.rr_turn.specs.Asked.{hands, wakes_flusher, still, more}
use Rattle.rr_turn.specs.Looks.{Groups}
use Rattle.rr_turn.proofs.handing.flush_next.Goals as goal

pub returns-in-None : goal.returns-in-None
returns-in-None g c =
    let did = c.in_ok-take_in.ensures in
    let links = c.take_in.new.links in
    (did.0, None, links, subst (λ o. Groups g.L.Links.gives did.0 o c.args.links.now links) c.in-None.is did.1, still links, refl)

pub returns-in-Some : goal.returns-in-Some
returns-in-Some g c =
    let did = c.in_ok-take_in.ensures in
    let links = c.take_in.new.links in (
      did.0,
      Some c.in-Some.group,
      links,
      subst (λ o. Groups g.L.Links.gives did.0 o c.args.links.now links) c.in-Some.is did.1,
      more (hands c.in-Some.group) (wakes_flusher ∷ []) links c.give.new.self c.wake_flusher.new.self c.give.ensures
          (more wakes_flusher [] c.give.new.self c.wake_flusher.new.self c.wake_flusher.new.self c.wake_flusher.ensures (still c.wake_flusher.new.self)),
      refl,
    )
