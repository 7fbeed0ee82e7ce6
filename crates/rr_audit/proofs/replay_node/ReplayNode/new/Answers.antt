use Rattle.std.proofs.Common.{[], sym, ◌∙◌}
use Rattle.rr_model.specs.NodeState.{NodeState}
use Rattle.rr_audit.proofs.Follows.{started_group}
use Rattle.rr_audit.proofs.replay_node.ReplayNode.new.Goals as goal

pub invariant_of-result : goal.invariant_of-result
invariant_of-result c = sym (started_group _ _ _ _ c.in-Ok.core c.in-Ok.ensures.ok)
