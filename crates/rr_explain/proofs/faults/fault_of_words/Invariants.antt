use Rattle.rr_explain.specs.Found.{EndsWith}
use Rattle.rr_explain.proofs.faults.fault_of_words.Given as goal

abbrev pub invariant-loop : goal.invariant-loop
invariant-loop l = EndsWith l.line l.rest
