use Rattle.std.proofs.Common.{◌≡◌, map, drop}
use Rattle.rr_model.specs.NodeStep.{promised_row}
use Rattle.rr_state.specs.Listed.{put_rows}
use Rattle.rr_state.specs.Rowed.{AscendFrom, AreInstances, EachKeeps}
use Rattle.rr_state.proofs.rows.Rows.restore.Given as goal

-- what is left leads to what all the rows lead to
abbrev pub invariant-loop-entry : goal.invariant-loop-entry
invariant-loop-entry l =
    record {
      left : put_rows l.self (map (promised_row l.next) (drop l.entry-index l.promise)) ≡ put_rows l.fn.self (map (promised_row l.next) l.promise);
      keeps : EachKeeps l.self (map (promised_row l.next) (drop l.entry-index l.promise));
      ascend : AscendFrom 0 l.self;
      instances : AreInstances l.self;
    }
