use Rattle.std.proofs.Common.{◌<◌, ℕ, IsTrue, slice_index_or}
use Rattle.rr_types.specs.declared.promise.Entry.{Entry}
use Rattle.rr_state.specs.Marked.{has_mark_place, AreMarks, HaveMoved, IsCounted}
use Rattle.rr_state.proofs.RestoreLemmas.{IsRestored}
use Rattle.rr_state.proofs.marks.Marks.restore.Given as goal

-- the entries so far are marked
abbrev pub invariant-loop-entry : goal.invariant-loop-entry
invariant-loop-entry l =
    record {
      done : IsRestored l.rows l.self l.promise l.entry-index;
      marks : AreMarks l.self;
      moved : HaveMoved l.rows l.self;
      counted : IsCounted l.rows l.self;
      made : (k : ℕ) (d : Entry) → k < l.entry-index → IsTrue (has_mark_place l.self (slice_index_or l.promise k d).instance);
    }
