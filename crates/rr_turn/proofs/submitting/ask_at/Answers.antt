use Rattle.std.proofs.Common.{None, Some, refl}
use Rattle.rr_turn.proofs.submitting.ask_at.Goals as goal

pub returns-in-None : goal.returns-in-None
returns-in-None g c = (None, refl, c.take_wanted.new.self, c.in-None.ensures, refl)

pub returns-in-Some : goal.returns-in-Some
returns-in-Some g c = (Some c.in-Some.command, refl, c.take_wanted.new.self, c.in-Some.ensures, c.ask_in.ensures)
