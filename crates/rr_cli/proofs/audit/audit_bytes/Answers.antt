use Rattle.rr_cli.specs.Ends.{no_tape}
use Rattle.rr_cli.proofs.audit.audit_bytes.Goals as goal

pub returns-in-Ok-clause-ends : goal.returns-in-Ok-clause-ends
returns-in-Ok-clause-ends g c = rw c.audit_on.ensures.unprinted at c.end_by_verdict.ensures.ends

pub returns-in-Err-clause-ends : goal.returns-in-Err-clause-ends
returns-in-Err-clause-ends g c = no_tape c.in-Err.refusal c.in-Err.ensures.fault c.end_by_fault.ensures c.audit_on.ensures.unprinted
