-- The mail has the same ends so far.
use Rattle.rr_threads.specs.Ways.{HasSameEnds}
use Rattle.rr_threads.proofs.wires.Mail.keep_all.Given as goal

abbrev pub invariant-loop : goal.invariant-loop
invariant-loop g l = HasSameEnds l.fn.self l.self
