use Rattle.std.specs.Ordering.{nat_cmp}
use Rattle.std.specs.BTreeMap.{get}
use Rattle.rr_sim.proofs.ChosenLemmas.{Finds}
use Rattle.rr_sim.proofs.chosen.chosen_on.Given as goal

-- what the messages so far choose is found
abbrev pub invariant-loop-message : goal.invariant-loop-message
invariant-loop-message l = Finds l.fn.nodes l.wire l.message-index (get nat_cmp l.found)
