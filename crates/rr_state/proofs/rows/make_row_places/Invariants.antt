use Rattle.std.proofs.Common.{◌≡◌, ◌<◌, IsTrue, take}
use Rattle.std.specs.List.{All}
use Rattle.std.specs.Ordering.{nat_cmp}
use Rattle.rr_registry.specs.Places.{filled, has_place}
use Rattle.rr_state.proofs.rows.make_row_places.Given as goal

-- the rows so far have their places
abbrev pub invariant-loop-row : goal.invariant-loop-row
invariant-loop-row l =
    record {
      kept : filled l.map ≡ filled l.fn.map;
      made : All (λ r. IsTrue (has_place nat_cmp l.map r.instance)) (take l.row-index l.rows);
      instances : All (λ r. r.instance < 1048576) (take l.row-index l.rows);
    }
