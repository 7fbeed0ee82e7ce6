use Rattle.rr_state.proofs.VoteLemmas.{keeps_firsts}
use Rattle.rr_state.proofs.keeps_the_first_of_each_sender.Goals as goal

pub returns : goal.returns
returns c = keeps_firsts
