use Rattle.std.proofs.Common.{refl, ap}
use Rattle.rr_node.specs.declared.doing.Doing.TheVariants as does
use Rattle.rr_types.specs.declared.event.NodeEvent.TheVariants as at
use Rattle.rr_node.specs.Stances.{event_of}
use Rattle.rr_node.specs.Views.{quiet}
use Rattle.rr_node.proofs.CallLaws.{carried}
use Rattle.rr_node.proofs.doing.go_on_by.Goals as goal

pub returns-in-Take-clause-carries : goal.returns-in-Take-clause-carries
returns-in-Take-clause-carries c n p =
    let next = does.Serving c.take.new.self in
    carried n p (event_of c.args.act) at.Take c.args.doing.now (does.Serving c.in-Serving.serving) next next (quiet c.take.result) (ap event_of c.in-Take.is) c.in-Serving.is refl (c.take.ensures n p)

pub returns-in-Mark-clause-carries : goal.returns-in-Mark-clause-carries
returns-in-Mark-clause-carries c n p =
    let next = does.Serving c.mark.new.self in
    carried n p (event_of c.args.act) at.Mark c.args.doing.now (does.Serving c.in-Serving.serving) next next (quiet c.mark.result) (ap event_of c.in-Mark.is) c.in-Serving.is refl (c.mark.ensures n p)

pub returns-in-Snap-clause-carries : goal.returns-in-Snap-clause-carries
returns-in-Snap-clause-carries c n p =
    let next = does.Serving c.snap.new.self in
    carried n p (event_of c.args.act) at.Snap c.args.doing.now (does.Serving c.in-Serving.serving) next next (quiet c.snap.result) (ap event_of c.in-Snap.is) c.in-Serving.is refl (c.snap.ensures n p)

pub returns-in-Device-clause-carries : goal.returns-in-Device-clause-carries
returns-in-Device-clause-carries c n p =
    let next = c.device_on.new.doing in
    carried n p (event_of c.args.act) at.Device c.args.doing.now (does.Serving c.in-Serving.serving) next next (quiet c.device_on.result) (ap event_of c.in-Device.is) c.in-Serving.is refl (c.device_on.ensures n p)
