use Rattle.rr_core.proofs.TailLemmas.{unlast}
use Rattle.rr_core.proofs.absorb.+unwait_all.Goals as goal

pub returns-then-requests-gt0 : goal.returns-then-requests-gt0
returns-then-requests-gt0 t c = unlast c.args.waiting.now c.args.requests.now _ _ c.if-requests-gt0.true c.unwait_all.ensures c.take_back.ensures
