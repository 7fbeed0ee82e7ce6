use Rattle.std.proofs.Common.{◌-◌, length}
use Rattle.rr_model.specs.NodeState.{decided_prefix}
use Rattle.rr_core.specs.Searched.{IsSearched}
use Rattle.rr_core.proofs.leaving.search_on.Given as goal

abbrev pub invariant-loop-count : goal.invariant-loop-count
invariant-loop-count l = IsSearched l.count l.searched.is_stale l.state

abbrev pub decreases-loop-count : goal.decreases-loop-count
decreases-loop-count l = length (decided_prefix l.state) - l.count
