use Rattle.std.proofs.Common.{◌≡◌, ◌≤◌, length, take}
use mathlib.Core.List.{IsPrefix}
use Rattle.rr_model.specs.NodeState.{decided_prefix}
use Rattle.rr_turn.specs.Listed.{listed}
use Rattle.rr_turn.proofs.following.follow.Given as goal

abbrev pub invariant-loop-place : goal.invariant-loop-place
invariant-loop-place g l =
    (length (listed l.publisher) ≡ l.place) × (l.place ≤ length (decided_prefix l.core))
    × (IsPrefix (listed l.fn.publisher) (decided_prefix l.core) → listed l.publisher ≡ take l.place (decided_prefix l.core))
    × (l.publisher.published ≡ l.fn.publisher.published)
    × IsPrefix (listed l.fn.publisher) (listed l.publisher)
