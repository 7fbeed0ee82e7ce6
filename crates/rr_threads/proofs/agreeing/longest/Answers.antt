use Rattle.std.proofs.Common.{◌≤◌, length, arith}
use Rattle.rr_model.specs.NodeState.{decided_prefix}
use Rattle.rr_threads.specs.Beginnings.{decided_of}
use Rattle.rr_threads.proofs.AgreeLemmas.{none_longer, of_all}
use Rattle.rr_threads.proofs.agreeing.longest.Goals as goal

pub loop-node-preserved : goal.loop-node-preserved
loop-node-preserved g c =
    let l = c.loop-node in
    none_longer c.args.parts.now (λ p. length (decided_of p.0)) l.node-index (length (decided_prefix l.best.now)) (length (decided_prefix c.longer_up-best.result.now)) c.node-item.result c.loop-node-test.true
    c.node-item.is c.longer_up-best.ensures.one c.longer_up-best.ensures.other l.invariant

pub returns : goal.returns
returns g c =
    of_all c.args.parts.now (λ p. length (decided_of p.0) ≤ length (decided_prefix c.loop-node.best.now)) c.loop-node.node-index (omega (arith, c.loop-node-test.false)) c.loop-node.invariant
