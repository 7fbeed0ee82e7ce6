-- When what a call has changed is the node's step on an input, or all that was due; which inputs repeat a decided request.
use Rattle.std.specs.Prelude.{◌≡◌, ◌<◌, ◌^◌, Bool, false, None}
use Rattle.rr_types.specs.Registry.{has_request}
use Rattle.rr_model.specs.NodeState.{NodeState, next_number, decided_prefix}
use Rattle.rr_model.specs.NodeDue.{settle}
use Rattle.rr_types.specs.declared.input.Input.{Input}
use Rattle.rr_types.specs.declared.message.Message.{Message}
use Rattle.rr_types.specs.declared.input.Input.TheVariants.{Submit}
use Rattle.rr_model.specs.NodeStep.{node_step, refusal_of}
use Rattle.rr_core.specs.Steps.{Changed, combined, IsFitting}

-- whether an input is a command whose request the decided prefix holds
abbrev pub is_repeated : Input Message → NodeState → Bool
is_repeated (Submit c) s = has_request (decided_prefix s) c.request
is_repeated input s = false

-- what a step changes makes all that was due done, and the next fact has a number
pub record IsSettled (base state : NodeState) (c : Changed) : Type 0 where
  pub done : combined base c ≡ settle state
  pub room : next_number (settle state) < 2 ^ 64
  pub fits : IsFitting base c

-- what an input changes makes the node's step, and isn't refused
pub record IsStep (input : Input Message) (s : NodeState) (c : Changed) : Type 0 where
  pub done : combined s c ≡ node_step input s
  pub allowed : refusal_of input s ≡ None
  pub fits : IsFitting s c
