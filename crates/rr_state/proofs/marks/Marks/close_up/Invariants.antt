use Rattle.std.proofs.Common.{◌≡◌, ℕ, length}
use Rattle.rr_state.specs.Marked.{marked_in, has_mark_place, AreMarks, HaveMoved}
use Rattle.rr_state.proofs.marks.Marks.close_up.Given as goal

-- an entry that leaves the tree stays where it was in the promise
abbrev pub invariant-loop-command : goal.invariant-loop-command
invariant-loop-command l =
    record {
      value : marked_in l.rows l.self ≡ marked_in l.rows l.fn.self;
      marks : AreMarks l.self;
      moved : HaveMoved l.rows l.self;
      prefix : l.self.prefix ≡ l.fn.self.prefix;
      places : (i : ℕ) → has_mark_place l.self i ≡ has_mark_place l.fn.self i;
    }

abbrev pub decreases-loop-command : goal.decreases-loop-command
decreases-loop-command l = length l.self.entries.entries
