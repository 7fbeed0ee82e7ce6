use Rattle.rr_node.proofs.SpellingLaws.{steady_spelt}
use Rattle.rr_node.proofs.CallLaws.{gave_quietly, kept_quietly, none_quietly, one_quietly, steady_quietly}
use Rattle.rr_node.proofs.node.Node.step_quietly.Goals as goal

pub invariant_of-self : goal.invariant_of-self
invariant_of-self c =
    let n = c.self.inside in
    (c.self.invariant.0, steady_quietly n.nodes n.node c.args.event.now n.doing c.go_on_quietly.new.doing c.args.self.now c.self.view_is c.self.invariant.1 c.go_on_quietly.result c.go_on_quietly.ensures.carries)

pub returns-clause-gives : goal.returns-clause-gives
returns-clause-gives c =
    let n = c.self.inside in
    gave_quietly n.nodes n.node c.args.event.now n.doing c.go_on_quietly.new.doing c.args.self.now c.self.view_is c.self.invariant.1 c.go_on_quietly.result c.go_on_quietly.ensures.carries

pub returns-clause-kept : goal.returns-clause-kept
returns-clause-kept c =
    let n = c.self.inside in
    kept_quietly n.nodes n.node c.args.event.now n.doing c.go_on_quietly.new.doing c.args.self.now c.self.view_is c.self.invariant.1 c.go_on_quietly.result c.go_on_quietly.ensures.carries

pub returns-clause-one_call : goal.returns-clause-one_call
returns-clause-one_call c =
    let n = c.self.inside in
    one_quietly n.nodes n.node c.args.event.now n.doing c.go_on_quietly.new.doing c.args.self.now c.self.view_is c.self.invariant.1 c.go_on_quietly.result c.go_on_quietly.ensures.carries

pub returns-clause-no_call : goal.returns-clause-no_call
returns-clause-no_call c =
    let n = c.self.inside in
    none_quietly n.nodes n.node c.args.event.now n.doing c.go_on_quietly.new.doing c.args.self.now c.self.view_is c.self.invariant.1 c.go_on_quietly.result c.go_on_quietly.ensures.carries

pub returns-clause-spelt : goal.returns-clause-spelt
returns-clause-spelt c =
    let n = c.self.inside in
    steady_spelt n.nodes n.node c.go_on_quietly.new.doing
    (steady_quietly n.nodes n.node c.args.event.now n.doing c.go_on_quietly.new.doing c.args.self.now c.self.view_is c.self.invariant.1 c.go_on_quietly.result c.go_on_quietly.ensures.carries)
