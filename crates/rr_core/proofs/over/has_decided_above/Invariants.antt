use Rattle.std.proofs.Common.{◌≡◌, ◌&&◌, nat_lt, drop}
use Rattle.std.specs.List.{list_any}
use Rattle.rr_model.specs.NodeState.{is_decided}
use Rattle.rr_core.proofs.over.has_decided_above.Given as goal

abbrev pub invariant-loop-row : goal.invariant-loop-row
invariant-loop-row l = list_any (λ r. nat_lt l.first r.instance && is_decided r) (drop l.row-index l.rows) ≡ list_any (λ r. nat_lt l.first r.instance && is_decided r) l.rows
