use Rattle.rr_text.proofs.CutLemmas.{cut_takes}
use Rattle.rr_explain.proofs.FaultLemmas.{cut_first, uncut_first}
use Rattle.rr_explain.proofs.faults.next_word.Goals as goal

pub returns-in-Some-clause-word : goal.returns-in-Some-clause-word
returns-in-Some-clause-word c = (cut_first 32 c.args.rest.now c.in-Some.word.now c.in-Some.behind.now c.in-Some.ensures).0

pub returns-in-Some-clause-behind : goal.returns-in-Some-clause-behind
returns-in-Some-clause-behind c = cut_takes 32 c.args.rest.now c.in-Some.word.now c.in-Some.behind.now c.in-Some.ensures

pub returns-in-None-clause-word : goal.returns-in-None-clause-word
returns-in-None-clause-word c = uncut_first 32 c.args.rest.now c.in-None.ensures
