-- It is the same end of the hand-over.
use Rattle.std.proofs.Common.{◌≡◌}
use Rattle.rr_threads.proofs.flushing.give_back.Given as goal

abbrev pub invariant-loop : goal.invariant-loop
invariant-loop g l = l.backs.queue ≡ l.fn.backs.queue
