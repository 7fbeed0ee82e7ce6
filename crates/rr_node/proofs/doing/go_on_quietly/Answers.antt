use Rattle.std.proofs.Common.{◌≡◌, ◌≢◌, true, refl}
use Rattle.rr_node.specs.declared.doing.Doing.TheVariants as does
use Rattle.rr_types.specs.declared.event.NodeEvent.{NodeEvent}
use Rattle.rr_types.specs.declared.message.Message.{Message}
use Rattle.rr_types.specs.declared.event.NodeEvent.TheVariants as at
use Rattle.rr_node.specs.Stances.{gives_nothing}
use Rattle.rr_node.specs.Views.{quiet}
use Rattle.rr_node.proofs.CallLaws.{carried}
use Rattle.rr_node.proofs.doing.go_on_quietly.Goals as goal

-- all but a send and an acknowledgement give nothing
others : (event : NodeEvent Message) → event ≢ at.Send → event ≢ at.Acknowledge → gives_nothing event ≡ true
others (at.Told input) send acknowledge = refl
others at.Take send acknowledge = refl
others at.Device send acknowledge = refl
others at.Mark send acknowledge = refl
others at.Send send acknowledge = absurd (send refl)
others at.Acknowledge send acknowledge = absurd (acknowledge refl)
others at.Snap send acknowledge = refl
others at.Restart send acknowledge = refl

pub take_in-requires : goal.take_in-requires
take_in-requires c =
    let other = c.in_default-event in
    record { own = c.requires c.in-Serving.serving c.in-Serving.is; gives = others c.args.event.now other.not-Send other.not-Acknowledge; other = other.not-Device }

pub returns-in-Device-clause-carries : goal.returns-in-Device-clause-carries
returns-in-Device-clause-carries c n p =
    let next = c.device_on.new.doing in
    carried n p c.args.event.now at.Device c.args.doing.now (does.Serving c.in-Serving.serving) next next (quiet c.device_on.result) c.in-Device.is c.in-Serving.is refl (c.device_on.ensures n p)

pub returns-in_default-event-clause-carries : goal.returns-in_default-event-clause-carries
returns-in_default-event-clause-carries c n p =
    let next = does.Serving c.take_in.new.self in
    carried n p c.args.event.now c.args.event.now c.args.doing.now (does.Serving c.in-Serving.serving) next next (quiet c.take_in.result) refl c.in-Serving.is refl (c.take_in.ensures n p)
