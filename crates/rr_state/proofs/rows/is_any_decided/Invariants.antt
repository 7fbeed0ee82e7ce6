use Rattle.std.proofs.Common.{◌≡◌, drop}
use Rattle.std.specs.List.{list_any}
use Rattle.rr_model.specs.NodeState.{is_decided}
use Rattle.rr_state.proofs.rows.is_any_decided.Given as goal

abbrev pub invariant-loop-row : goal.invariant-loop-row
invariant-loop-row l = list_any (λ r. is_decided r) (drop l.row-index l.rows) ≡ list_any (λ r. is_decided r) l.rows
