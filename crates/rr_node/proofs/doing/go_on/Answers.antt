use Rattle.std.proofs.Common.{refl, subst}
use Rattle.rr_node.specs.declared.doing.Doing.{Doing}
use Rattle.rr_node.specs.declared.doing.Doing.TheVariants as does
use Rattle.rr_types.specs.declared.event.NodeEvent.TheVariants as at
use Rattle.rr_node.specs.Views.{Takes, doing_of}
use Rattle.rr_node.proofs.CallLaws.{carried}
use Rattle.rr_node.proofs.doing.go_on.Goals as goal

pub returns-in-Send : goal.returns-in-Send
returns-in-Send c =
    let n = c.args.nodes in
    let p = c.args.node in
    let next = does.Serving c.send.new.self in
    carried n p c.args.event.now at.Send c.args.doing.now (does.Serving c.in-Serving.serving) next next c.send.result c.in-Send.is c.in-Serving.is refl (c.send.ensures n p)

pub returns-in-Acknowledge : goal.returns-in-Acknowledge
returns-in-Acknowledge c =
    let n = c.args.nodes in
    let p = c.args.node in
    let next = does.Serving c.reply.new.self in
    carried n p c.args.event.now at.Acknowledge c.args.doing.now (does.Serving c.in-Serving.serving) next next c.reply.result c.in-Acknowledge.is c.in-Serving.is refl (c.reply.ensures n p)

pub returns-in_default-event : goal.returns-in_default-event
returns-in_default-event c =
    let n = c.args.nodes in
    let p = c.args.node in
    let next = c.go_on_up.new.doing in
    carried n p c.args.event.now c.args.event.now c.args.doing.now (does.Serving c.in-Serving.serving) next next c.go_on_up.result refl c.in-Serving.is refl (c.go_on_up.ensures n p)

pub returns-in-Opening : goal.returns-in-Opening
returns-in-Opening c =
    let n = c.args.nodes in
    let p = c.args.node in
    let made = subst (λ (d : Doing). Takes c.args.event.now (doing_of d)) c.in-Opening.is c.requires.taken in
    carried n p c.args.event.now at.Device c.args.doing.now c.args.doing.now c.open_on.new.doing c.open_on.new.doing c.open_on.result made refl refl (c.open_on.ensures n p)

pub returns-in_default : goal.returns-in_default
returns-in_default c = c.start_up.ensures c.args.event.now c.requires.taken
