use Rattle.rr_sim.proofs.ChosenLemmas.{Notes}
use Rattle.rr_sim.proofs.chosen.acks_on.Given as goal

-- the acknowledgements of the messages so far
abbrev pub invariant-loop-message : goal.invariant-loop-message
invariant-loop-message l = Notes l.wire l.message-index l.acks
