use Rattle.std.proofs.Common.{length}
use Rattle.rr_journal.proofs.EntryLemmas.{IsTaken}
use Rattle.rr_journal.proofs.entries.Entries.of.Given as goal

-- the entries that are taken from the vector are in the tree
abbrev pub invariant-loop-front : goal.invariant-loop-front
invariant-loop-front l = IsTaken l.fn.entries.items l.front.items l.beyond.entries

abbrev pub decreases-loop-front : goal.decreases-loop-front
decreases-loop-front l = length l.front.items
