use Rattle.std.proofs.Common.{◌≡◌, ◌++◌, length}
use Rattle.rr_registry.specs.Places.{filled}
use Rattle.rr_state.specs.Marked.{entries_in, marked_in}
use Rattle.rr_state.proofs.marks.Marks.promise.Given as goal

-- what is pushed, and what is left of the tree
abbrev pub invariant-loop-place : goal.invariant-loop-place
invariant-loop-place l = l.promise.items ++ entries_in (filled l.rest) ≡ marked_in l.rows l.self

abbrev pub decreases-loop-place : goal.decreases-loop-place
decreases-loop-place l = length l.rest
