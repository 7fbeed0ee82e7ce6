use Rattle.rr_text.proofs.TextReading.{one_fault}
use Rattle.rr_text.proofs.TapeReading.{tapes}
use Rattle.rr_text.proofs.tape_law.one_tape_fault.Goals as goal

pub returns : goal.returns
returns c = one_fault tapes
