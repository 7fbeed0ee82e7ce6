use Rattle.std.proofs.Common.{None, refl}
use Rattle.rr_run.specs.Runs.{refused}
use Rattle.rr_run.proofs.ToldLemmas.{told_so}
use Rattle.rr_run.proofs.script_run.run_in.Goals as goal

pub returns-in-Err-clause-ends : goal.returns-in-Err-clause-ends
returns-in-Err-clause-ends g c = refused c.end_by_closed.ensures.0 c.end_by_closed.ensures.1 refl

pub returns-in-Ok-ran-clause-ends : goal.returns-in-Ok-ran-clause-ends
returns-in-Ok-ran-clause-ends g c = c.end_by_answers.ensures.ends None

pub returns-clause-ends : goal.returns-clause-ends
returns-clause-ends g c = refused c.in-Err-ran.refusal c.end_by_run_fault.ensures refl

pub returns-in-Ok-ran-clause-quiet : goal.returns-in-Ok-ran-clause-quiet
returns-in-Ok-ran-clause-quiet g c = λ ended.
    told_so c.args.script.now.lines c.lines.result.now c.in-Ok-ran.ran.reused.items c.as_slice.result.now _ _ _ c.lines.ensures.value c.as_slice.ensures.value c.in-Ok-ran.ensures.reused c.tell_reused.ensures (c.end_by_answers.ensures.quiet ended)
