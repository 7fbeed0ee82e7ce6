use Rattle.rr_text.proofs.TextReading as law
use Rattle.rr_text.proofs.ScheduleReading.{schedules}
use Rattle.rr_text.proofs.text_law.one_fault.Goals as goal

pub returns : goal.returns
returns c = law.one_fault schedules
