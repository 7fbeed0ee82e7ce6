-- What the nodes so far have told.
use Rattle.std.proofs.Common.{◌≤◌}
use Rattle.rr_run.specs.Numbers.{HaveTold}
use Rattle.rr_run.proofs.console.greatest_used.Given as goal

abbrev pub invariant-loop-index : goal.invariant-loop-index
invariant-loop-index g l = HaveTold g.B.Board.gives l.fn.client l.index l.most × (l.index ≤ l.index-end)
