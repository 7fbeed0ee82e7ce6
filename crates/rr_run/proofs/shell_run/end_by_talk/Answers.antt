use Rattle.rr_run.proofs.ShellLemmas.{of_stream}
use Rattle.rr_run.proofs.shell_run.end_by_talk.Goals as goal

pub returns-in-Err-Unread-clause-ends : goal.returns-in-Err-Unread-clause-ends
returns-in-Err-Unread-clause-ends g c = rw c.in-Err-Unread.is (of_stream c.end_by_stream.result c.end_by_stream.ensures.status)

pub returns-in-Err-Unprinted-clause-ends : goal.returns-in-Err-Unprinted-clause-ends
returns-in-Err-Unprinted-clause-ends g c = rw c.in-Err-Unprinted.is (of_stream c.end_by_unprinted.result c.end_by_unprinted.ensures.status)

pub returns-in-Some-Differing-clause-differing : goal.returns-in-Some-Differing-clause-differing
returns-in-Some-Differing-clause-differing g c =
    rw (c.in-Ok.is, c.in-Some-Differing.is, c.in-Some-Differing.field-0-is) (rw c.in-Some-Differing.field-0-is at c.end_by_dispute.ensures.told)
