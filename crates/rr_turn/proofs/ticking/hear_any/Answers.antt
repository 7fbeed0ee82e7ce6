use Rattle.std.proofs.Common.{[], ◌∷◌, sym, subst}
use Rattle.std.specs.Option.{option_map_or}
use Rattle.std.proofs.lemmas.Result.{on_ok_weaker}
use Rattle.rr_turn.specs.Recorded.{Sent}
use Rattle.rr_turn.specs.Asked.{Ran, hears, still, more}
use Rattle.rr_turn.proofs.ticking.hear_any.Goals as goal

pub returns-in-None-clause-calls : goal.returns-in-None-clause-calls
returns-in-None-clause-calls g c =
    let gives = g.L.Links.gives in
    let from = c.args.links.now in
    subst (λ o. Ran gives (option_map_or (λ (sent : Sent). hears c.args.locked.now sent ∷ []) o []) from from) (sym c.in-None.is) (still from)

pub returns-in-Some-clause-calls : goal.returns-in-Some-clause-calls
returns-in-Some-clause-calls g c =
    let gives = g.L.Links.gives in
    let s = c.args.locked.now in
    let from = c.args.links.now in
    let to = c.hear.new.self in
    on_ok_weaker c.hear.result
    (λ heard. subst (λ o. Ran gives (option_map_or (λ (sent : Sent). hears s sent ∷ []) o []) from to) (sym c.in-Some.is) (more (hears s c.in-Some.sent) [] from to to heard (still to))) c.hear.ensures.call
