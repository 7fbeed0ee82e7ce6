use Rattle.std.proofs.Common.{◌≡◌}
use Rattle.rr_types.specs.Registry.{registry_of, holding_of}
use Rattle.rr_model.specs.NodeState.{decided_prefix}
use Rattle.rr_host.proofs.reading.holding.Given as goal

abbrev pub invariant-loop-bound : goal.invariant-loop-bound
invariant-loop-bound l =
    (goal.iterator-loop-bound).can_next l.bound-iterator × (goal.iterator-loop-bound).is_finite l.bound-iterator
    × (holding_of l.bound-iterator l.name ≡ holding_of (registry_of (decided_prefix l.core)) l.name)
