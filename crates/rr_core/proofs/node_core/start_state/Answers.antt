use Rattle.rr_core.proofs.MarkOfLemmas.{started_marks}
use Rattle.rr_core.proofs.node_core.start_state.Goals as goal

pub returns-clause-mark : goal.returns-clause-mark
returns-clause-mark c =
    started_marks c.nodes.result c.node.result c.promise.result.now c.next.result c.args.opened.now.node c.args.opened.now.next c.started.result c.node.ensures c.next.ensures c.started.ensures.ok
