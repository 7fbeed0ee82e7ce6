use Rattle.std.proofs.Common.{◌≡◌, IsTrue}
use Rattle.std.specs.List.{All}
use Rattle.std.specs.Ordering.{nat_cmp}
use Rattle.std.specs.Vec.Iter.{into_iter_items}
use Rattle.rr_registry.specs.Places.{filled, has_place}
use Rattle.rr_state.specs.Listed.{put_rows}
use Rattle.rr_state.specs.Rowed.{rows_in, AreKeyed}
use Rattle.rr_state.proofs.rows.put_all.Given as goal

-- what is left leads to what all the rows lead to
abbrev pub invariant-loop-row : goal.invariant-loop-row
invariant-loop-row l =
    record {
      left : put_rows (rows_in (filled l.map)) (into_iter_items l.row-iterator) ≡ put_rows (rows_in (filled l.initial.map)) (into_iter_items l.initial.row-iterator);
      keyed : AreKeyed (filled l.map);
      places : All (λ r. IsTrue (has_place nat_cmp l.map r.instance)) (into_iter_items l.row-iterator);
    }
