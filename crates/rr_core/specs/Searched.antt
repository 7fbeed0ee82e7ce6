-- How far the decided prefix was searched for requests that wait.
use Rattle.std.specs.Prelude.{◌≡◌, ◌≤◌, ℕ, Bool, false, length, take}
use Rattle.std.specs.List.{list_any}
use Rattle.rr_types.specs.Registry.{has_request}
use Rattle.rr_model.specs.NodeState.{NodeState, decided_prefix}

-- how far the decided prefix was searched for requests that wait: none waits that its first commands hold, unless one
-- waits again that was decided before
pub record IsSearched (count : ℕ) (is_stale : Bool) (s : NodeState) : Type 0 where
  pub within : count ≤ length (decided_prefix s)
  pub none : is_stale ≡ false → list_any (has_request (take count (decided_prefix s))) s.waiting ≡ false
