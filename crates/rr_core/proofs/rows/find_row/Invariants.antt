use Rattle.std.proofs.Common.{◌≡◌, drop}
use Rattle.rr_model.specs.NodeState.{row_of}
use Rattle.rr_core.proofs.rows.find_row.Given as goal

abbrev pub invariant-loop-row : goal.invariant-loop-row
invariant-loop-row l = row_of (drop l.row-index l.rows) l.instance ≡ row_of l.rows l.instance
