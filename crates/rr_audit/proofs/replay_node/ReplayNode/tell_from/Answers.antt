use Rattle.std.proofs.Common.{ℕ, subst, sym}
use Rattle.rr_types.specs.declared.input.Input.{Input}
use Rattle.rr_types.specs.Inputs.{message_on}
use Rattle.rr_text.specs.declared.tape_event.Recorded.TheVariants.{Told}
use Rattle.rr_text.specs.Taped.{of_node}
use Rattle.rr_audit.specs.Following.{FollowsAt}
use Rattle.rr_audit.proofs.Follows.{follows_told}
use Rattle.rr_audit.proofs.replay_node.ReplayNode.tell_from.Goals as goal

pub returns-in-Hear : goal.returns-in-Hear
returns-in-Hear c =
    subst (λ (i : Input ℕ). FollowsAt c.args.wire.now (of_node c.args.node (Told i)) c.args.self.now c.hear_from.new.self c.hear_from.result) (sym c.in-Hear.is) c.hear_from.ensures

pub returns-in_default : goal.returns-in_default
returns-in_default c =
    follows_told c.args.wire.now c.args.node c.args.input.now c.unheard.result c.args.self.now c.tell.new.self c.tell.result (c.unheard.ensures (message_on c.args.wire.now c.args.node)) c.tell.ensures
