use Rattle.std.proofs.Common.{◌≡◌, ◌≤◌, length}
use Rattle.std.specs.Prelude.{filter}
use Rattle.std.specs.List.{range_with_len}
use Rattle.rr_types.specs.Nodes.{has_member}
use Rattle.rr_state.proofs.tally.count_members.Given as goal

abbrev pub invariant-loop-index : goal.invariant-loop-index
invariant-loop-index l = (l.count ≤ l.index) × (l.count ≡ length (filter (λ q. has_member l.set q) (range_with_len 0 l.index)))
