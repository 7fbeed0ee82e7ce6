use Rattle.rr_cli.proofs.random_schedule.lone_schedule.Goals as goal

pub returns-clause-ok : goal.returns-clause-ok
returns-clause-ok g c = (c.in_ok-schedule.schedule, c.in_ok-schedule.ensures.ok, c.in_ok-text.ensures.ok)
