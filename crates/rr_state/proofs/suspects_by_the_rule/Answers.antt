use Rattle.rr_state.proofs.RuleLemmas.{follows}
use Rattle.rr_state.proofs.suspects_by_the_rule.Goals as goal

pub returns : goal.returns
returns c = follows
