use Rattle.rr_core.proofs.PoolLemmas.{taken_step}
use Rattle.rr_core.proofs.absorb.take_all.Goals as goal

pub loop-request-preserved : goal.loop-request-preserved
loop-request-preserved c = taken_step c.args.taken.now c.args.pool.now _ _ c.loop-request.request-index _ c.loop-request-test.true c.loop-request.invariant c.remove.ensures
