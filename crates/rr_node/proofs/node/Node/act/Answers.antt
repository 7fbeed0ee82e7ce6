use Rattle.std.proofs.Common.{◌≢◌, refl}
use Rattle.rr_types.specs.declared.event.NodeEvent.TheVariants as at
use Rattle.rr_node.specs.declared.event.Act.{Act}
use Rattle.rr_node.specs.declared.event.Act.TheVariants as act
use Rattle.rr_node.specs.Stances.{event_of}
use Rattle.rr_node.proofs.SpellingLaws.{steady_spelt}
use Rattle.rr_node.proofs.CallLaws.{gave_quietly, kept_quietly, none_quietly, one_quietly, steady_quietly}
use Rattle.rr_node.proofs.node.Node.act.Goals as goal

-- an act that is no device call is an event that is none
no_device : (a : Act) → a ≢ act.Device → event_of a ≢ at.Device
no_device act.Take other is = cc
no_device act.Device other is = other refl
no_device act.Mark other is = cc
no_device act.Send other is = cc
no_device act.Acknowledge other is = cc
no_device act.Snap other is = cc
no_device act.Restart other is = cc

pub invariant_of-self : goal.invariant_of-self
invariant_of-self c =
    let n = c.self.inside in
    (c.self.invariant.0, steady_quietly n.nodes n.node (event_of c.args.act) n.doing c.go_on_by.new.doing c.args.self.now c.self.view_is c.self.invariant.1 c.go_on_by.result c.go_on_by.ensures.carries)

pub returns-clause-gives : goal.returns-clause-gives
returns-clause-gives c =
    let n = c.self.inside in
    gave_quietly n.nodes n.node (event_of c.args.act) n.doing c.go_on_by.new.doing c.args.self.now c.self.view_is c.self.invariant.1 c.go_on_by.result c.go_on_by.ensures.carries

pub returns-clause-kept : goal.returns-clause-kept
returns-clause-kept c =
    let n = c.self.inside in
    kept_quietly n.nodes n.node (event_of c.args.act) n.doing c.go_on_by.new.doing c.args.self.now c.self.view_is c.self.invariant.1 c.go_on_by.result c.go_on_by.ensures.carries

pub returns-clause-one_call : goal.returns-clause-one_call
returns-clause-one_call c =
    let n = c.self.inside in
    one_quietly n.nodes n.node (event_of c.args.act) n.doing c.go_on_by.new.doing c.args.self.now c.self.view_is c.self.invariant.1 c.go_on_by.result c.go_on_by.ensures.carries

pub returns-clause-no_call : goal.returns-clause-no_call
returns-clause-no_call c other =
    let n = c.self.inside in
    none_quietly n.nodes n.node (event_of c.args.act) n.doing c.go_on_by.new.doing c.args.self.now c.self.view_is c.self.invariant.1 c.go_on_by.result c.go_on_by.ensures.carries (no_device c.args.act other)

pub returns-clause-spelt : goal.returns-clause-spelt
returns-clause-spelt c =
    let n = c.self.inside in
    steady_spelt n.nodes n.node c.go_on_by.new.doing
    (steady_quietly n.nodes n.node (event_of c.args.act) n.doing c.go_on_by.new.doing c.args.self.now c.self.view_is c.self.invariant.1 c.go_on_by.result c.go_on_by.ensures.carries)
