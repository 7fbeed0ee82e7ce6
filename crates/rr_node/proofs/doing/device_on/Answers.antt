use Rattle.std.proofs.Common.{Ok, Err, refl}
use Rattle.rr_node.specs.declared.doing.Doing.TheVariants as does
use Rattle.rr_types.specs.declared.event.NodeEvent.TheVariants as at
use Rattle.rr_node.specs.declared.event.Outcome.TheVariants.{Quiet}
use Rattle.rr_node.proofs.CallLaws.{carried}
use Rattle.rr_node.proofs.doing.device_on.Goals as goal

pub returns-in-Ok : goal.returns-in-Ok
returns-in-Ok c n p =
    let next = does.Serving c.flush_on.new.self in
    carried n p at.Device at.Device c.args.doing.now (does.Serving c.in-Serving.serving) next next (Ok Quiet) refl c.in-Serving.is refl (c.in-Ok.ensures.ok n p)

pub returns-in-Err : goal.returns-in-Err
returns-in-Err c n p =
    let left = c.flush_on.new.self in
    carried n p at.Device at.Device c.args.doing.now (does.Serving c.in-Serving.serving) c.fall.new.doing (does.Faulted left.slots.disk) (Err c.in-Err.refusal) refl c.in-Serving.is (c.fall.ensures.serving left refl) (c.in-Err.ensures.err n p)
