use Rattle.std.proofs.Common.{◌≤◌}
use Rattle.rr_turn.specs.Asked.{Ran}
use Rattle.rr_turn.specs.Waits.{waits}
use Rattle.rr_turn.proofs.waiting.wait_at.Given as goal

abbrev pub invariant-loop-rests : goal.invariant-loop-rests
invariant-loop-rests g l = (l.rests ≤ l.looks) × Ran g.E.ClientEnds.gives (waits l.rests) l.fn.ends l.ends
