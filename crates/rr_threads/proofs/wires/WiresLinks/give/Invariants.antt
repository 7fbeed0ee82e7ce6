-- The mail is as it was.
use Rattle.std.proofs.Common.{◌≡◌}
use Rattle.rr_threads.proofs.wires.WiresLinks.give.Given as goal

abbrev pub invariant-loop : goal.invariant-loop
invariant-loop g l = l.self.ends.mail ≡ l.fn.self.ends.mail
