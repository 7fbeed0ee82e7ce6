use Rattle.std.proofs.Common.{◌≡◌, take}
use Rattle.rr_types.specs.declared.command.RequestNo.{RequestNo}
use Rattle.rr_registry.specs.Kept.{request_cmp}
use Rattle.rr_registry.specs.Places.{filled, has_place}
use Rattle.rr_state.specs.Rowed.{rows_in, IsNoted}
use Rattle.rr_state.proofs.rows.note_decisions.Given as goal

-- the instances so far are noted
abbrev pub invariant-loop-instance : goal.invariant-loop-instance
invariant-loop-instance l =
    record {
      noted : IsNoted (rows_in (filled l.rows)) (take l.instance-index l.instances) (filled l.fn.requests.entries) (filled l.requests.entries) l.fn.end l.higher;
      places : (q : RequestNo) → has_place request_cmp l.requests.entries q ≡ has_place request_cmp l.fn.requests.entries q;
    }
