use Rattle.std.proofs.Common.{◌∙◌, sym}
use Rattle.rr_audit.proofs.Follows.{marked_group}
use Rattle.rr_audit.proofs.replay_node.ReplayNode.mark.Goals as goal

pub invariant_of-self-in-Ok : goal.invariant_of-self-in-Ok
invariant_of-self-in-Ok c = c.take.ensures.after ∙ sym (marked_group c.self.inside.core c.mark.new.self c.in-Ok.ensures.ok)
