use Rattle.std.proofs.Common.{sym, ◌∙◌}
use Rattle.rr_state.proofs.WatchLemmas.{late_on, late_off}
use Rattle.rr_state.proofs.heartbeat.late_nodes.Goals as goal
use Rattle.rr_state.proofs.heartbeat.late_nodes.Goals.{then-is_late, else-is_late}

pub loop-index-preserved : goal.loop-index-preserved
loop-index-preserved c = elim c.if-is_late.branch [
  | then-is_late w ↦ late_on _ _ _ _ _ _ c.loop-index-test.true c.requires c.index-watches-index.is (sym c.is_late.ensures ∙ w.if-is_late.true) c.in-Some.ensures.value (w.late-is ∙ w.with-late.ensures) c.loop-index.invariant
  | else-is_late w ↦ late_off _ _ _ _ _ c.loop-index-test.true c.requires c.index-watches-index.is (sym c.is_late.ensures ∙ w.if-is_late.false) w.late-is c.loop-index.invariant
]
