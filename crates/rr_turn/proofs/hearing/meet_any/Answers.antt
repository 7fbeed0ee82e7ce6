use Rattle.std.proofs.Common.{refl, sym, subst}
use Rattle.rr_turn.specs.Asked.{still}
use Rattle.rr_turn.specs.Looks.{MeetsAny}
use Rattle.rr_turn.proofs.Hears.{meets_one}
use Rattle.rr_turn.proofs.hearing.meet_any.Goals as goal

pub returns-in-None : goal.returns-in-None
returns-in-None g c =
    let from = c.args.links.now in
    let s = c.args.locked.now in
    let k = c.args.chase.now in
    subst (λ o. MeetsAny g.L.Links.gives o s k from s k from) (sym c.in-None.is) (record { calls = still from; after = refl; chase = refl })

pub returns-in-Some : goal.returns-in-Some
returns-in-Some g c =
    meets_one g.L.Links.gives c.meet.result c.args.sent c.in-Some.sent c.args.locked.now c.args.chase.now c.args.links.now c.meet.new.locked c.meet.new.chase c.meet.new.links c.in-Some.is
    c.meet.ensures.calls c.meet.ensures.state c.meet.ensures.chase
