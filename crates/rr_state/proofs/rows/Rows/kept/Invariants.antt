use Rattle.std.proofs.Common.{◌≡◌, ◌≤◌, filter, take, length}
use Rattle.rr_state.specs.Rowed.{is_undecided}
use Rattle.rr_state.proofs.rows.Rows.kept.Given as goal

-- those so far that are undecided
abbrev pub invariant-loop-instance : goal.invariant-loop-instance
invariant-loop-instance l =
    record {
      kept : l.kept ≡ filter (is_undecided l.self) (take l.instance-index l.instance-items);
      few : length l.kept ≤ l.instance-index;
    }
