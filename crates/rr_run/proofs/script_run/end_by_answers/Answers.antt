use Rattle.std.proofs.Common.{refl, subst, ◌∙◌}
use Rattle.rr_types.specs.declared.refusal.Refusal.TheVariants.{OutOfMemory}
use Rattle.rr_cli.specs.Ends.{Prints}
use Rattle.rr_run.specs.Runs.{answered, refused}
use Rattle.rr_run.proofs.script_run.end_by_answers.Goals as goal

pub returns-in-Ok-clause-ends : goal.returns-in-Ok-clause-ends
returns-in-Ok-clause-ends g c = λ tape.
    answered c.args.answers.now
    (subst (λ text. Prints text c.end_by_text.result (g.O.Sink.printing c.args.out.now) (g.O.Sink.printing c.end_by_text.new.out)) (c.as_slice.ensures.value ∙ c.in-Ok.ensures) c.end_by_text.ensures.ends)

pub returns-in-Err-clause-ends : goal.returns-in-Err-clause-ends
returns-in-Err-clause-ends g c = λ tape. refused OutOfMemory c.end_by_refusal.ensures refl
