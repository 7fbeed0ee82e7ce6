use Rattle.std.proofs.Common.{◌≡◌, ◌&&◌, eqb, drop}
use Rattle.std.specs.List.{list_any}
use Rattle.rr_model.specs.NodeState.{is_decided}
use Rattle.rr_core.proofs.over.is_decided_at.Given as goal

abbrev pub invariant-loop-row : goal.invariant-loop-row
invariant-loop-row l = list_any (λ r. eqb r.instance l.number && is_decided r) (drop l.row-index l.rows) ≡ list_any (λ r. eqb r.instance l.number && is_decided r) l.rows
