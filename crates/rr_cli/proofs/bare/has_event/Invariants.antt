use Rattle.std.proofs.Common.{◌≡◌, length}
use Rattle.rr_cli.specs.Cuts.{has_event}
use Rattle.rr_cli.proofs.bare.has_event.Given as goal

-- no event begins before what is left
abbrev pub invariant-loop-rest : goal.invariant-loop-rest
invariant-loop-rest l = has_event l.rest ≡ has_event l.text

abbrev pub decreases-loop-rest : goal.decreases-loop-rest
decreases-loop-rest l = length l.rest
