use Rattle.std.proofs.Common.{◌≡◌, take}
use Rattle.rr_core.specs.Steps.{without_requests}
use Rattle.rr_core.proofs.absorb.take_all.Given as goal

abbrev pub invariant-loop-request : goal.invariant-loop-request
invariant-loop-request l = l.pool ≡ without_requests (take l.request-index l.taken) l.initial.pool
