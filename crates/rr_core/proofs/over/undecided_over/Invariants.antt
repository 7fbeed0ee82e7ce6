use Rattle.std.proofs.Common.{◌≡◌, ◌≤◌, ◌-◌, false}
use Rattle.rr_model.specs.NodeState.{undecided_from}
use Rattle.rr_state.specs.Rowed.{AscendFrom}
use Rattle.rr_core.specs.Steps.{put_rows}
use Rattle.rr_core.proofs.OverLemmas.{is_decided_at}
use Rattle.rr_core.proofs.over.undecided_over.Given as goal

abbrev pub invariant-loop-lowest : goal.invariant-loop-lowest
invariant-loop-lowest l = record {
  range : l.lowest ≤ 1048576;
  above : l.from ≤ l.lowest;
  same : undecided_from l.lowest (put_rows l.changed l.base.rows) ≡ undecided_from l.from (put_rows l.changed l.base.rows);
  ascend : AscendFrom 0 l.base.rows;
  stands : is_decided_at l.lowest l.base.rows ≡ false;
}

abbrev pub decreases-loop-lowest : goal.decreases-loop-lowest
decreases-loop-lowest l = 1048576 - l.lowest
