use Rattle.rr_model.specs.NodeState.{decided_prefix}
use Rattle.rr_threads.specs.Beginnings.{decided_of}
use Rattle.rr_threads.proofs.AgreeLemmas.{none_to_agree}
use Rattle.rr_threads.proofs.agreeing.do_all_agree.Goals as goal

pub returns : goal.returns
returns g c = λ yes. (decided_prefix c.longest.result.now, c.longest.ensures, c.agree_with.ensures yes)

pub returns-in_default : goal.returns-in_default
returns-in_default g c = λ yes. none_to_agree c.args.parts.now (λ p. decided_of p.0) (c.first_up.ensures cc)
