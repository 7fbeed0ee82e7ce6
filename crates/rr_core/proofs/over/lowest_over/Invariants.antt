use Rattle.std.proofs.Common.{◌≡◌, ◌≤◌, ◌-◌, ◌+◌, ◌++◌, length}
use Rattle.rr_model.specs.NodeState.{lowest_undecided}
use Rattle.rr_core.specs.Steps.{put_rows}
use Rattle.rr_core.proofs.over.lowest_over.Given as goal

-- what was found, and what comes from this number on
abbrev pub invariant-loop-turn : goal.invariant-loop-turn
invariant-loop-turn l =
    record {
      left : l.found ++ lowest_undecided (8 - l._turn) l.from (put_rows l.changed l.base.rows) ≡ lowest_undecided 8 0 (put_rows l.changed l.base.rows);
      small : l.from ≤ 1048576;
      few : length l.found + (8 - l._turn) ≤ 8;
    }
