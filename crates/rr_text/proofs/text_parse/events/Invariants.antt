use Rattle.std.proofs.Common.{length}
use Rattle.rr_text.specs.Scheduled.{IsEvent}
use Rattle.rr_text.specs.ScheduleTexts.{event_line}
use Rattle.rr_text.proofs.LineReading.{SoFar}
use Rattle.rr_text.proofs.text_parse.events.Given as goal

-- the events so far and the rest make the whole
abbrev pub invariant-loop-events : goal.invariant-loop-events
invariant-loop-events l = SoFar (IsEvent l.nodes) event_line l.bytes l.events.items l.rest

abbrev pub decreases-loop-events : goal.decreases-loop-events
decreases-loop-events l = length l.rest
