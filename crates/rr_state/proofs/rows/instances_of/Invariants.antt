use Rattle.std.proofs.Common.{◌≡◌, map, take}
use Rattle.rr_model.specs.NodeState.{Row}
use Rattle.rr_state.proofs.rows.instances_of.Given as goal

abbrev pub invariant-loop-row : goal.invariant-loop-row
invariant-loop-row l = l.instances.items ≡ map (λ (r : Row). r.instance) (take l.row-index l.rows)
