use Rattle.rr_sim.proofs.Alone.{OpeningSoFar}
use Rattle.rr_sim.proofs.opening.open.Given as goal

-- so many device calls were made, and the opening goes on
abbrev pub invariant-loop-call : goal.invariant-loop-call
invariant-loop-call l = OpeningSoFar l.fn.seat l._call l.seat
