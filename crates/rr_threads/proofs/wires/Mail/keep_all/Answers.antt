use Rattle.rr_threads.proofs.Taking.{ends_still}
use Rattle.rr_threads.proofs.wires.Mail.keep_all.Goals as goal

pub loop-preserved : goal.loop-preserved
loop-preserved g c = ends_still c.args.self.now c.loop.self c.take.result c.take.new.self c.loop.invariant c.take.ensures
