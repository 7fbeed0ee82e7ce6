use Rattle.rr_lively.proofs.lively.lively_schedule.Goals as goal

pub returns-clause-ok : goal.returns-clause-ok
returns-clause-ok g c = (c.in_ok-run.field-0.line, c.in_ok-run.ensures.line, c.into_schedule.ensures)
