use Rattle.std.proofs.Common.{◌≡◌, ◌≤◌, ◌-◌, ◌+◌, ◌++◌, length}
use Rattle.rr_model.specs.NodeState.{lowest_undecided}
use Rattle.rr_state.proofs.rows.Rows.fill.Given as goal

-- what was found, and what comes from this number on
abbrev pub invariant-loop-turn : goal.invariant-loop-turn
invariant-loop-turn l =
    record {
      left : l.lowest ++ lowest_undecided (l.room - l._turn) l.from l.self ≡ l.fn.kept ++ lowest_undecided (8 - length l.fn.kept) l.fn.from l.self;
      small : l.from ≤ 1048576;
      few : length l.lowest + (l.room - l._turn) ≤ 8;
    }
