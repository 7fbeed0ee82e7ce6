use Rattle.rr_core.proofs.TailLemmas.{unlast}
use Rattle.rr_core.proofs.absorb.+unpool_all.Goals as goal

pub returns-then-commands-gt0 : goal.returns-then-commands-gt0
returns-then-commands-gt0 t c = unlast c.args.pool.now c.args.commands.now _ _ c.if-commands-gt0.true c.unpool_all.ensures c.take_back.ensures
