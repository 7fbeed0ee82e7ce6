use Rattle.std.proofs.Common.{◌≡◌, ◌<◌, ◌≤◌, ℕ, false, slice_get, IfSome}
use Rattle.std.specs.Str.{bytes_eq}
use Rattle.rr_model.specs.NodeState.{decided_prefix}
use Rattle.rr_host.specs.Readings.{name_in}
use Rattle.rr_host.proofs.reading.next_about.Given as goal

abbrev pub invariant-loop-place : goal.invariant-loop-place
invariant-loop-place l =
    (k : ℕ) → k < l.place → l.from ≤ k → IfSome (slice_get (decided_prefix l.core) k) (λ c. bytes_eq l.name (name_in c.op) ≡ false)
