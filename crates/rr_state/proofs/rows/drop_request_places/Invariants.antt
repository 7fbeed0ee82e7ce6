use Rattle.std.proofs.Common.{◌≡◌}
use Rattle.rr_registry.specs.Places.{filled}
use Rattle.rr_state.proofs.rows.drop_request_places.Given as goal

abbrev pub invariant-loop-row : goal.invariant-loop-row
invariant-loop-row l = filled l.requests.entries ≡ filled l.fn.requests.entries
