use Rattle.rr_text.proofs.ScheduleReading.{read_again}
use Rattle.rr_text.proofs.schedule.Schedule.parse.Goals as goal

pub returns-clause-only : goal.returns-clause-only
returns-clause-only c = read_again c.args.bytes.now c.schedule.result c.schedule.ensures.found c.schedule.ensures.fault
