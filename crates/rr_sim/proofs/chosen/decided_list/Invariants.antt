use Rattle.std.proofs.Common.{vec_len}
use Rattle.rr_model.specs.Sound.{IsChosenList}
use Rattle.rr_sim.proofs.ChosenLemmas.{proposals_from}
use Rattle.rr_sim.proofs.chosen.decided_list.Given as goal

-- each command so far is chosen for its place
abbrev pub invariant-loop-command : goal.invariant-loop-command
invariant-loop-command l = IsChosenList l.fn.nodes l.wire l.list.items

-- the proposals for later instances that are left
abbrev pub decreases-loop-command : goal.decreases-loop-command
decreases-loop-command l = proposals_from (vec_len l.list) l.wire
