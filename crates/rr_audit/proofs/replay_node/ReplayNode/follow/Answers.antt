use Rattle.std.proofs.Common.{sym, subst}
use Rattle.rr_text.specs.declared.tape_event.Recorded.{Recorded}
use Rattle.rr_text.specs.Taped.{of_node}
use Rattle.rr_audit.specs.Following.{FollowsAt}
use Rattle.rr_audit.proofs.replay_node.ReplayNode.follow.Goals as goal

pub returns-in-Told : goal.returns-in-Told
returns-in-Told c =
    subst (λ (what : Recorded). FollowsAt c.args.wire.now (of_node c.args.event.now.node what) c.args.self.now c.tell_from.new.self c.tell_from.result) (sym c.in-Told.is) c.tell_from.ensures
