use Rattle.std.proofs.Common.{◌≡◌, drop}
use Rattle.std.specs.Prelude.{find}
use Rattle.rr_core.specs.Places.{is_free}
use Rattle.rr_core.proofs.estimates.first_free_of.Given as goal

abbrev pub invariant-loop-command : goal.invariant-loop-command
invariant-loop-command l = find (is_free l.step.state.rows l.instances l.instance l.taken) (drop l.command-index l.pool) ≡ find (is_free l.step.state.rows l.instances l.instance l.taken) l.pool
