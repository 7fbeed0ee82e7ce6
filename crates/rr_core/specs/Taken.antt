-- When a node can take what a step has changed: its facts stay lawful, and the next fact has a number.
use Rattle.std.specs.Prelude.{◌<◌, ◌^◌}
use Rattle.rr_model.specs.NodeState.{NodeState, next_number}
use Rattle.rr_core.specs.Steps.{Changed, combined, IsFitting}
use Rattle.rr_core.specs.Lawful.{IsLawful}

-- the state with what a step changes stays lawful, and the next fact has a number
pub record CanBeTaken (s : NodeState) (c : Changed) : Type 0 where
  pub lawful : IsLawful s → IsLawful (combined s c)
  pub room : next_number (combined s c) < 2 ^ 64
  pub fits : IsFitting s c
