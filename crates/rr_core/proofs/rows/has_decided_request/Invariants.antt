use Rattle.std.proofs.Common.{◌≡◌, false, drop}
use Rattle.std.specs.Option.{option_map_or}
use Rattle.std.specs.List.{list_any}
use Rattle.rr_types.specs.Registry.{is_same_request}
use Rattle.rr_model.specs.NodeState.{decided_command}
use Rattle.rr_core.proofs.rows.has_decided_request.Given as goal

abbrev pub invariant-loop-row : goal.invariant-loop-row
invariant-loop-row l = list_any (λ r. option_map_or (λ v. is_same_request v.request l.request) (decided_command r) false) (drop l.row-index l.rows) ≡ list_any (λ r. option_map_or (λ v. is_same_request v.request l.request) (decided_command r) false) l.rows
