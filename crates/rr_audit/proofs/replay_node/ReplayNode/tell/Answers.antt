use Rattle.std.proofs.Common.{◌∙◌}
use Rattle.rr_audit.proofs.Follows.{told_group}
use Rattle.rr_audit.proofs.replay_node.ReplayNode.tell.Goals as goal

pub invariant_of-self : goal.invariant_of-self
invariant_of-self c = c.self.invariant ∙ (told_group c.args.input.now c.self.inside.core c.step.new.self c.step.result c.step.ensures.ok c.step.ensures.err)
