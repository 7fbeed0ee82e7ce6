-- An event of a tape in the words of a schedule, and its line of a report.
use Rattle.std.specs.Prelude.{ℕ, Option, None, Some}
use Rattle.rr_text.specs.declared.event.Event.{Event}
use Rattle.rr_text.specs.Events.{event_of}
use Rattle.rr_types.specs.declared.event.NodeEvent.{NodeEvent}
use Rattle.rr_types.specs.declared.event.NodeEvent.TheVariants as events
use Rattle.rr_text.specs.declared.report.ReportLine.{ReportLine}
use Rattle.rr_text.specs.declared.report.ReportLine.TheVariants as reports
use Rattle.rr_text.specs.declared.tape_event.TapeEvent.{TapeEvent}
use Rattle.rr_text.specs.declared.tape_event.Recorded.{Recorded}
use Rattle.rr_text.specs.declared.tape_event.Recorded.TheVariants as tape

-- what happens at a node, without what was sent or acknowledged
abbrev pub happens_by : Recorded → NodeEvent ℕ
happens_by (tape.Told input) = events.Told input
happens_by tape.Take = events.Take
happens_by tape.Mark = events.Mark
happens_by (tape.Sent k m) = events.Send
happens_by (tape.Acked q reply) = events.Acknowledge

-- the event of a schedule that an event of a tape is
abbrev pub as_scheduled : TapeEvent → Event
as_scheduled e = event_of e.node (happens_by e.what)

-- the line of a report on what a tape has of node p: a message that was sent, or an acknowledgement
abbrev pub line_on : ℕ → Recorded → Option ReportLine
line_on p (tape.Sent k m) = Some (reports.Send k m)
line_on p (tape.Acked q reply) = Some (reports.Ack p q reply)
line_on p _ = None

-- the line of a report that an event of a tape is
abbrev pub as_reported : TapeEvent → Option ReportLine
as_reported e = line_on e.node e.what
