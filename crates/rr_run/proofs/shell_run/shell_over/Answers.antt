use Rattle.rr_run.proofs.ToldLemmas.{new_so}
use Rattle.rr_run.proofs.shell_run.shell_over.Goals as goal

pub returns-in-Ok-enter-clause-quiet : goal.returns-in-Ok-enter-clause-quiet
returns-in-Ok-enter-clause-quiet g c = λ ended.
    new_so _ _ _ _ c.begins-begins.result _ _ _ c.in-Ok.ensures.judged c.begins-begins.ensures c.tell_if_new.ensures.goes_on c.tell_if_new.ensures.new (c.shell_in.ensures.quiet ended)
