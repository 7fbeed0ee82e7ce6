use Rattle.std.proofs.Common.{◌≡◌, drop}
use Rattle.rr_core.specs.Places.{is_estimate_beside}
use Rattle.rr_core.proofs.estimates.is_estimate_beside.Given as goal

abbrev pub invariant-loop-other : goal.invariant-loop-other
invariant-loop-other l = is_estimate_beside l.step.state.rows (drop l.other-index l.instances) l.instance l.command ≡ is_estimate_beside l.step.state.rows l.instances l.instance l.command
