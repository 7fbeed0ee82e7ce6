use Rattle.std.proofs.Common.{◌≡◌, true, false}
use Rattle.std.specs.Prelude.{is_some}
use Rattle.rr_types.specs.Registry.{reply_of}
use Rattle.rr_model.specs.NodeState.{decided_prefix}
use Rattle.rr_turn.proofs.Asks.{asked_vainly, asked_early, asked_late}
use Rattle.rr_turn.proofs.submitting.ask.Goals as goal

pub returns-in-Err : goal.returns-in-Err
returns-in-Err g c =
    asked_vainly g.L.Links.gives c.args.place c.args.command.now c.args.locked.now c.in-Err.refusal c.args.links.now c.tell.new.self c.refuse.new.self c.in-Err.ensures.call c.refuse.ensures

pub returns-then-is_some : goal.returns-then-is_some
returns-then-is_some g c =
    let there : is_some (reply_of (decided_prefix c.tell.new.locked) c.args.command.now.request) ≡ true = cc (c.reply.ensures, c.is_some.ensures, c.if-is_some.true) in
    asked_early g.L.Links.gives c.args.place c.args.command.now c.args.locked.now c.tell.new.locked c.args.links.now c.tell.new.self c.wake_publisher.new.self c.in-Ok.ensures.call
    c.in-Ok.ensures.step.0 there c.wake_publisher.ensures

pub returns-else-is_some : goal.returns-else-is_some
returns-else-is_some g c =
    let there : is_some (reply_of (decided_prefix c.tell.new.locked) c.args.command.now.request) ≡ false = cc (c.reply.ensures, c.is_some.ensures, c.if-is_some.false) in
    asked_late g.L.Links.gives c.args.place c.args.command.now c.args.locked.now c.tell.new.locked c.args.links.now c.tell.new.self c.in-Ok.ensures.call c.in-Ok.ensures.step.0 there
