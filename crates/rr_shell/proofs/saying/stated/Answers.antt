use Rattle.std.proofs.Common.{◌∙◌, arith}
use Rattle.rr_shell.specs.Talks.{nothing, more}
use Rattle.rr_shell.proofs.saying.stated.Goals as goal

pub loop-index-init : goal.loop-index-init
loop-index-init g c = (rw c.new-text.ensures.items nothing, omega (arith))

pub loop-index-preserved : goal.loop-index-preserved
loop-index-preserved g c =
    (rw c.in_ok-say_status.ensures.ok (more c.loop-index.invariant.0 c.in_ok-status.status (c.in_ok-status.ensures.node ∙ c.in-Some.ensures.value) c.in_ok-status.ensures.own), omega (arith, c.loop-index-test.true))
