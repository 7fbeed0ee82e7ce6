-- The nodes so far are left out.
use Rattle.std.proofs.Common.{◌≤◌}
use Rattle.rr_run.specs.LeavingOut.{AreLeftOutBelow}
use Rattle.rr_run.proofs.leaving_out.lowest_left.Given as goal

abbrev pub invariant-loop-index : goal.invariant-loop-index
invariant-loop-index l = AreLeftOutBelow l.index l.fn.without × (l.index ≤ l.index-end)
