use Rattle.std.proofs.Common.{subst, sym}
use Rattle.rr_sim.specs.Told.{IsReportOn}
use Rattle.rr_cli.specs.Ends.{reported, refused}
use Rattle.rr_cli.proofs.program.simulate_bytes.Goals as goal

pub returns-in-Ok-clause-ends : goal.returns-in-Ok-clause-ends
returns-in-Ok-clause-ends g c =
    let on : IsReportOn c.args.bytes.now c.as_slice.result.now = subst (λ text. IsReportOn c.args.bytes.now text) (sym c.as_slice.ensures.value) c.in-Ok.ensures.ok in
    reported c.as_slice.result.now on (rw c.report_on.ensures.unprinted at c.end_by_text.ensures.ends)

pub returns-in-Err-clause-ends : goal.returns-in-Err-clause-ends
returns-in-Err-clause-ends g c = refused c.in-Err.refusal c.in-Err.ensures.fault c.end_by_fault.ensures c.report_on.ensures.unprinted
