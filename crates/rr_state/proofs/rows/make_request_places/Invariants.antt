use Rattle.std.proofs.Common.{◌≡◌, IsTrue, take}
use Rattle.std.specs.List.{All}
use Rattle.rr_types.specs.declared.command.RequestNo.{RequestNo}
use Rattle.rr_registry.specs.Kept.{request_cmp}
use Rattle.rr_registry.specs.Places.{filled, has_place}
use Rattle.rr_state.specs.Rowed.{has_request_place}
use Rattle.rr_state.proofs.rows.make_request_places.Given as goal

-- the decisions so far have their places
abbrev pub invariant-loop-row : goal.invariant-loop-row
invariant-loop-row l =
    record {
      kept : filled l.map.entries ≡ filled l.fn.map.entries;
      made : All (λ r. IsTrue (has_request_place l.map.entries r)) (take l.row-index l.rows);
      stay : (q : RequestNo) → IsTrue (has_place request_cmp l.fn.map.entries q) → IsTrue (has_place request_cmp l.map.entries q);
    }
