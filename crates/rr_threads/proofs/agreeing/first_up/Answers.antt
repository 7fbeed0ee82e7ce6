use Rattle.std.proofs.Common.{◌≡◌, [], arith}
use Rattle.rr_threads.specs.Beginnings.{decided_of}
use Rattle.rr_threads.proofs.AgreeLemmas.{empty_too, of_all}
use Rattle.rr_threads.proofs.agreeing.first_up.Goals as goal

pub loop-node-preserved : goal.loop-node-preserved
loop-node-preserved g c =
    let l = c.loop-node in
    let here : decided_of c.node-item.result.0 ≡ [] = c.core.ensures.none c.in_default.is in
    empty_too c.args.parts.now (λ p. decided_of p.0) l.node-index c.node-item.result c.loop-node-test.true c.node-item.is here l.invariant

pub returns : goal.returns
returns g c =
    λ none. of_all c.args.parts.now (λ p. decided_of p.0 ≡ []) c.loop-node.node-index (omega (arith, c.loop-node-test.false)) c.loop-node.invariant
