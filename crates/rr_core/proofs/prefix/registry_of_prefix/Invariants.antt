use Rattle.std.proofs.Common.{◌≡◌, take}
use Rattle.rr_model.specs.NodeState.{decided_prefix}
use Rattle.rr_registry.specs.Kept.{kept_of}
use Rattle.rr_core.proofs.prefix.registry_of_prefix.Given as goal

-- the commands so far are applied
abbrev pub invariant-loop-place : goal.invariant-loop-place
invariant-loop-place l = l.registry ≡ kept_of (take l.place (decided_prefix l.state))
