use Rattle.std.proofs.Common.{◌≡◌, drop}
use Rattle.rr_types.specs.Registry.{has_request}
use Rattle.rr_core.proofs.owing.has_request.Given as goal

abbrev pub invariant-loop-command : goal.invariant-loop-command
invariant-loop-command l = has_request (drop l.command-index l.pool) l.request ≡ has_request l.pool l.request
