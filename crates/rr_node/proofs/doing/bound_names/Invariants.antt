use Rattle.std.proofs.Common.{◌≡◌, ◌++◌}
use Rattle.rr_types.specs.Registry.{registry_of}
use Rattle.rr_model.specs.NodeState.{decided_prefix}
use Rattle.rr_node.proofs.doing.bound_names.Given as goal

-- the names so far, and those that are left
abbrev pub invariant-loop-entry : goal.invariant-loop-entry
invariant-loop-entry l = l.entries.items ++ l.entry-iterator ≡ registry_of (decided_prefix l.core)
