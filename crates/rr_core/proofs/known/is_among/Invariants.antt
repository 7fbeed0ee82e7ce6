use Rattle.std.proofs.Common.{◌≡◌, drop}
use Rattle.std.specs.List.{list_any}
use Rattle.rr_types.specs.Registry.{is_same_request}
use Rattle.rr_core.proofs.known.is_among.Given as goal

abbrev pub invariant-loop-one : goal.invariant-loop-one
invariant-loop-one l = list_any (λ q. is_same_request q l.request) (drop l.one-index l.requests) ≡ list_any (λ q. is_same_request q l.request) l.requests
