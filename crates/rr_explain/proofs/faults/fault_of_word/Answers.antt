use Rattle.rr_explain.proofs.FaultLemmas.{word_said}
use Rattle.rr_explain.proofs.faults.fault_of_word.Goals as goal

pub returns-in_default : goal.returns-in_default
returns-in_default c = λ left is. word_said left c.args.word.now c.called.result.now c.expected.result.now is c.called.ensures c.expected.ensures
