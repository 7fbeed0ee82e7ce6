-- None of the commands so far has the number.
use Rattle.std.proofs.Common.{◌≡◌, ◌≤◌, drop, length}
use Rattle.rr_model.specs.NodeState.{decided_prefix}
use Rattle.rr_threads.specs.Fates.{first_under}
use Rattle.rr_threads.proofs.fate.first_under.Given as goal

abbrev pub invariant-loop-place : goal.invariant-loop-place
invariant-loop-place l =
    (l.place ≤ length (decided_prefix l.fn.core))
    × (first_under l.fn.request (drop l.place (decided_prefix l.fn.core)) ≡ first_under l.fn.request (decided_prefix l.fn.core))
