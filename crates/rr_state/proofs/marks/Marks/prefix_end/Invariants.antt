use Rattle.std.proofs.Common.{◌≡◌, ◌<◌, ◌≤◌, ℕ, is_some, true}
use Rattle.rr_state.specs.Marked.{tree_in}
use Rattle.rr_state.proofs.MarkLemmas.{decided_in}
use Rattle.rr_state.proofs.marks.Marks.prefix_end.Given as goal

-- the places so far are decided
abbrev pub invariant-loop-place : goal.invariant-loop-place
invariant-loop-place l = (i : ℕ) → l.self.prefix ≤ i → i < l.place → is_some (decided_in (tree_in l.self) i) ≡ true
