use Rattle.std.proofs.Common.{refl}
use Rattle.rr_node.specs.Views.{seat_of}
use Rattle.rr_node.proofs.SpellingLaws.{steadily_spelt}
use Rattle.rr_node.proofs.CallLaws.{fails_one, gave_failing}
use Rattle.rr_node.proofs.node.Node.fail.Goals as goal

pub returns-clause-one_call : goal.returns-clause-one_call
returns-clause-one_call c =
    let n = c.self.inside in
    let new = c.fail.new.doing in
    fails_one c.args.fill.items c.args.self.now (seat_of n.nodes n.node new) c.fail.result
    (gave_failing n.nodes n.node c.args.fill.items n.doing n.doing new new c.args.self.now c.fail.result c.self.view_is c.self.invariant.1 refl c.fail.ensures refl)

pub returns-clause-spelt : goal.returns-clause-spelt
returns-clause-spelt c =
    let n = c.self.inside in
    let new = c.fail.new.doing in
    steadily_spelt n.nodes n.node n.doing n.doing new new c.self.invariant.1 refl c.fail.ensures refl
