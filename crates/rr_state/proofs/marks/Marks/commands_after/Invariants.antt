use Rattle.std.proofs.Common.{◌≡◌, ◌≤◌, ◌++◌}
use Rattle.rr_types.specs.Promises.{take_on_all}
use Rattle.rr_state.specs.Marked.{marked_in}
use Rattle.rr_state.proofs.MarkLemmas.{run_from}
use Rattle.rr_state.proofs.marks.Marks.commands_after.Given as goal

-- what was found, and what comes from this place on
abbrev pub invariant-loop-place : goal.invariant-loop-place
invariant-loop-place l =
    record {
      left : l.found.items ++ run_from (take_on_all (marked_in l.rows l.self) l.facts) l.place ≡ run_from (take_on_all (marked_in l.rows l.self) l.facts) l.self.prefix;
      small : l.place ≤ 1048576;
    }
