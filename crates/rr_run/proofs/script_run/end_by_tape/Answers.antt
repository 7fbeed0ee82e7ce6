use Rattle.std.proofs.Common.{Some, refl}
use Rattle.rr_types.specs.declared.refusal.Refusal.TheVariants.{OutOfMemory}
use Rattle.rr_run.specs.Runs.{refused, unwritten}
use Rattle.rr_run.proofs.script_run.end_by_tape.Goals as goal

pub returns-in-Ok-write-clause-ends : goal.returns-in-Ok-write-clause-ends
returns-in-Ok-write-clause-ends g c = c.end_by_answers.ensures.ends (Some c.args.path.now)

pub returns-in-Err-clause-ends : goal.returns-in-Err-clause-ends
returns-in-Err-clause-ends g c = refused OutOfMemory c.end_by_refusal.ensures refl

pub returns-clause-ends : goal.returns-clause-ends
returns-clause-ends g c = unwritten refl c.end_by_stream.ensures.status refl
