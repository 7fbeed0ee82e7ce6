use Rattle.rr_state.proofs.WatchLemmas.{IsLateSoFar}
use Rattle.rr_state.proofs.heartbeat.late_nodes.Given as goal

abbrev pub invariant-loop-index : goal.invariant-loop-index
invariant-loop-index l = IsLateSoFar l.index l.watches l.late
