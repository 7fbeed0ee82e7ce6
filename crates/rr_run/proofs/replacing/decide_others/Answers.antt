use Rattle.std.proofs.Common.{inr}
use Rattle.rr_run.proofs.replacing.decide_others.Goals as goal

pub returns-in-Err-clause-halt : goal.returns-in-Err-clause-halt
returns-in-Err-clause-halt g c = inr (inr (c.in-Err.unreserved.refusal, c.end_by_requests.ensures))

pub returns-in-Err-new-clause-halt : goal.returns-in-Err-new-clause-halt
returns-in-Err-new-clause-halt g c = inr (inr (c.in-Err-new.refusal, c.end_by_refusal.ensures))

pub returns-in-Err-decide_at-clause-halt : goal.returns-in-Err-decide_at-clause-halt
returns-in-Err-decide_at-clause-halt g c = inr (inr (c.in-Err-decide_at.refusal, c.end_by_refusal-in-Err-decide_at.ensures))
