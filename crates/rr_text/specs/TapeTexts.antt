-- The text of a tape.
use Rattle.std.specs.Prelude.{ℕ, List, [], ◌∷◌, ◌++◌}
use Rattle.std.specs.List.{flat_map}
use Rattle.rr_types.specs.declared.event.NodeEvent.TheVariants as events
use Rattle.rr_text.specs.Events.{event_of, told_at}
use Rattle.rr_text.specs.declared.report.ReportLine.TheVariants as reports
use Rattle.rr_text.specs.Words.{spaced}
use Rattle.rr_text.specs.Lines.{nodes_line}
use Rattle.rr_text.specs.ScheduleTexts.{event_words}
use Rattle.rr_text.specs.ReportTexts.{report_words}
use Rattle.rr_text.specs.declared.tape_event.TapeEvent.{TapeEvent}
use Rattle.rr_text.specs.declared.tape_event.Recorded.{Recorded}
use Rattle.rr_text.specs.declared.tape_event.Recorded.TheVariants.{Told, Take, Mark, Sent, Acked}
use Rattle.rr_text.specs.Taped.{Taped}

-- what a tape has of node p as words: an input as a schedule has it, an output as a report has it
abbrev pub recorded_words : ℕ → Recorded → List (List ℕ)
recorded_words p (Told input) = event_words (told_at p input)
recorded_words p Take = event_words (event_of p events.Take)
recorded_words p Mark = event_words (event_of p events.Mark)
recorded_words p (Sent k m) = report_words (reports.Send k m)
recorded_words p (Acked q r) = report_words (reports.Ack p q r)

-- an event of a tape as words
abbrev pub tape_words : TapeEvent → List (List ℕ)
tape_words e = recorded_words e.node e.what

-- the line of an event: its words, divided by one space, and a line feed
abbrev pub tape_line : TapeEvent → List ℕ
tape_line e = spaced (tape_words e) ++ 10 ∷ []

-- the text of a tape: how many nodes there are, then a line an event
abbrev pub tape_text : Taped → List ℕ
tape_text t = nodes_line t.nodes ++ flat_map tape_line t.events
