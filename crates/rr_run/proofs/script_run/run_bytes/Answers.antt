use Rattle.std.proofs.Common.{refl}
use Rattle.rr_run.specs.Runs.{asked, faulty}
use Rattle.rr_run.proofs.script_run.run_bytes.Goals as goal

pub returns-in-Ok-clause-ends : goal.returns-in-Ok-clause-ends
returns-in-Ok-clause-ends g c =
    let (nodes, lawful, text) = c.in-Ok.ensures.found in
    asked c.in-Ok.script lawful nodes text c.run_over.ensures.ends

pub returns-in-Err-clause-ends : goal.returns-in-Err-clause-ends
returns-in-Err-clause-ends g c = faulty c.in-Err.refusal c.in-Err.ensures.fault c.end_by_script_fault.ensures refl

pub returns-in-Ok-clause-quiet : goal.returns-in-Ok-clause-quiet
returns-in-Ok-clause-quiet g c =
    let (nodes, lawful, text) = c.in-Ok.ensures.found in
    λ ended. (c.in-Ok.script.lines, text, c.run_over.ensures.quiet ended)
