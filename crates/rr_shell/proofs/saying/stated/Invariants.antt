-- What the nodes so far have told.
use Rattle.std.proofs.Common.{◌≤◌}
use Rattle.rr_shell.specs.Talks.{Stated}
use Rattle.rr_shell.proofs.saying.stated.Given as goal

abbrev pub invariant-loop-index : goal.invariant-loop-index
invariant-loop-index g l = Stated g.A.Asked.did l.fn.json l.index l.text.items × (l.index ≤ l.index-end)
