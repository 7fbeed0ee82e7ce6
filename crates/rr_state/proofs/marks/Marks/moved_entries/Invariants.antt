use Rattle.std.proofs.Common.{◌≡◌, ◌++◌, ◌-◌, ◌≤◌}
use Rattle.rr_state.specs.Marked.{decided_entries}
use Rattle.rr_state.proofs.marks.Marks.moved_entries.Given as goal

-- what is pushed, and what is left of those that have moved
abbrev pub invariant-loop-place : goal.invariant-loop-place
invariant-loop-place l = l.entries.items ++ decided_entries l.rows l.place (l.self.moved - l.place) ≡ decided_entries l.rows 0 l.self.moved
