use Rattle.std.proofs.Common.{◌≡◌, ◌++◌, length}
use Rattle.std.specs.Map.{values_of}
use Rattle.rr_journal.proofs.entries.Entries.into_vec.Given as goal

-- the entries of the tree come behind those of the vector
abbrev pub invariant-loop-entry : goal.invariant-loop-entry
invariant-loop-entry l = l.front.items ++ values_of l.beyond.entries ≡ l.initial.front.items ++ values_of l.initial.beyond.entries

abbrev pub decreases-loop-entry : goal.decreases-loop-entry
decreases-loop-entry l = length l.beyond.entries
