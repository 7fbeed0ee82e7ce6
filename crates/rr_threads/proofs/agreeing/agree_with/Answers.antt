use Rattle.std.proofs.Common.{◌≡◌, true, arith}
use Rattle.rr_model.specs.NodeState.{decided_prefix}
use Rattle.rr_threads.specs.Agreeing.{do_agree}
use Rattle.rr_threads.specs.Beginnings.{decided_of}
use Rattle.rr_threads.proofs.AgreeLemmas.{agrees_too, of_all}
use Rattle.rr_threads.proofs.agreeing.agree_with.Goals as goal

pub loop-node-preserved : goal.loop-node-preserved
loop-node-preserved g c =
    let l = c.loop-node in
    let whole = decided_prefix c.args.whole.now in
    let here : do_agree (decided_of c.node-item.result.0) whole ≡ true = cc in
    agrees_too c.args.parts.now (λ p. decided_of p.0) whole l.node-index c.node-item.result c.loop-node-test.true c.node-item.is here l.invariant

pub returns : goal.returns
returns g c =
    λ yes. of_all c.args.parts.now (λ p. do_agree (decided_of p.0) (decided_prefix c.args.whole.now) ≡ true) c.loop-node.node-index (omega (arith, c.loop-node-test.false)) c.loop-node.invariant
