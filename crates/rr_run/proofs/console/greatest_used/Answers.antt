use Rattle.std.proofs.Common.{arith}
use Rattle.rr_run.specs.Numbers.{none, more}
use Rattle.rr_run.proofs.console.greatest_used.Goals as goal

pub loop-index-init : goal.loop-index-init
loop-index-init g c = (none, omega (arith))

pub loop-index-preserved : goal.loop-index-preserved
loop-index-preserved g c = (
  rw (c.greatest_told-most.ensures) (more c.loop-index.invariant.0 c.in_ok-told.told (_, _, rw (c.in-Some.ensures.value) at c.in_ok-told.ensures.ok)),
  omega (arith, c.loop-index-test.true),
)
