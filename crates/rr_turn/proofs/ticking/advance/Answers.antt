use Rattle.std.proofs.Common.{Err, subst}
use Rattle.rr_types.specs.declared.input.Input.TheVariants.{Advance}
use Rattle.rr_turn.specs.Asked.{tells}
use Rattle.rr_turn.proofs.TickLaws.{advanced_out, advanced_in}
use Rattle.rr_turn.proofs.ticking.advance.Goals as goal

pub returns-in-Ok : goal.returns-in-Ok
returns-in-Ok g c = advanced_in g.L.Links.gives c.args.locked.now c.args.links.now c.tell.new.self c.in-Ok.ensures.call c.in-Ok.ensures.step.1

pub returns-in-Err-RoundsOut : goal.returns-in-Err-RoundsOut
returns-in-Err-RoundsOut g c =
    advanced_out g.L.Links.gives c.args.locked.now c.args.links.now c.tell.new.self
    (subst (λ e. g.L.Links.gives c.args.links.now (tells c.args.locked.now Advance (Err e)) c.tell.new.self) c.in-Err-RoundsOut.field-0-is c.in-Err-RoundsOut.ensures.call)
    (c.in-Err-RoundsOut.ensures.rounds c.in-Err-RoundsOut.field-0-is).1
