use Rattle.std.proofs.Common.{◌≡◌, ◌≤◌}
use Rattle.rr_model.specs.NodeState.{undecided_from}
use Rattle.rr_state.proofs.rows.Rows.search.Given as goal

-- the numbers so far are decided
abbrev pub invariant-loop-number : goal.invariant-loop-number
invariant-loop-number l =
    record {
      left : undecided_from l.number l.self ≡ undecided_from l.fn.from l.self;
      above : l.fn.from ≤ l.number;
      small : l.number ≤ 1048576;
    }
