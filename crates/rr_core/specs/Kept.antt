-- What holds of a core between calls: lawful facts that have numbers, and the registry of its decided prefix.
use Rattle.std.specs.Prelude.{◌≡◌, ◌<◌, ◌^◌}
use Rattle.rr_registry.specs.Kept.{Kept, kept_of}
use Rattle.rr_model.specs.NodeState.{NodeState, next_number, decided_prefix}
use Rattle.rr_core.specs.Lawful.{IsLawful}

-- what holds whenever nobody is inside a call: lawful facts, each with a number, and a registry that keeps the
-- bindings and replies of the decided prefix
pub record IsKept (s : NodeState) (registry : Kept) : Type 0 where
  pub lawful : IsLawful s
  pub room : next_number s < 2 ^ 64
  pub kept : registry ≡ kept_of (decided_prefix s)
