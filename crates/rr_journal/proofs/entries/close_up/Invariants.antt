use Rattle.std.proofs.Common.{◌≡◌, ◌++◌, length}
use Rattle.std.specs.Map.{values_of}
use Rattle.rr_journal.specs.Entries.{AreParted}
use Rattle.rr_journal.proofs.entries.close_up.Given as goal

abbrev pub invariant-loop-front : goal.invariant-loop-front
invariant-loop-front l =
    record {
      same : l.front.items ++ values_of l.beyond.entries ≡ l.fn.front.items ++ values_of l.fn.beyond.entries;
      parted : AreParted l.front.items l.beyond.entries;
    }

abbrev pub decreases-loop-front : goal.decreases-loop-front
decreases-loop-front l = length l.beyond.entries
