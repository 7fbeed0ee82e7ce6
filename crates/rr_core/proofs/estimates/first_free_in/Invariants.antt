use Rattle.std.proofs.Common.{◌≡◌, length}
use Rattle.std.specs.Prelude.{find}
use Rattle.rr_core.specs.Places.{is_free}
use Rattle.rr_core.proofs.estimates.first_free_in.Given as goal

abbrev pub invariant-loop-command : goal.invariant-loop-command
invariant-loop-command l = find (is_free l.step.state.rows l.instances l.instance l.taken) l.left ≡ find (is_free l.step.state.rows l.instances l.instance l.taken) l.fn.pool

abbrev pub decreases-loop-command : goal.decreases-loop-command
decreases-loop-command l = length l.left
