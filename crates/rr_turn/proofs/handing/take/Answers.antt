use Rattle.std.proofs.Common.{Err, subst}
use Rattle.rr_turn.specs.Asked.{groups}
use Rattle.rr_turn.proofs.Marks.{given_by, given_busy}
use Rattle.rr_turn.proofs.handing.take.Goals as goal

pub returns-in-Ok : goal.returns-in-Ok
returns-in-Ok g c =
    given_by g.L.Links.gives c.args.locked.now c.group.new.locked c.in-Ok.group c.args.links.now c.group.new.self c.in-Ok.ensures.call c.in-Ok.ensures.some

pub returns-in-Err-Busy : goal.returns-in-Err-Busy
returns-in-Err-Busy g c =
    given_busy g.L.Links.gives c.args.locked.now c.args.links.now c.group.new.self
    (subst (λ e. g.L.Links.gives c.args.links.now (groups c.args.locked.now (Err e)) c.group.new.self) c.in-Err-Busy.field-0-is c.in-Err-Busy.ensures.call)
