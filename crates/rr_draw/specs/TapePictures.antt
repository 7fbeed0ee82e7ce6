-- Which tape a picture shows.
use Rattle.std.specs.Prelude.{◌≡◌, ℕ, List, [], ◌∷◌, ◌++◌, Option, None, Some}
use Rattle.rr_types.specs.declared.message.Message.{Message}
use Rattle.rr_text.specs.declared.report.ReportLine.{ReportLine}
use Rattle.rr_text.specs.declared.tape_event.TapeEvent.{TapeEvent}
use Rattle.rr_text.specs.Taped.{Taped}
use Rattle.rr_audit.specs.Audits.{sent_by}
use Rattle.rr_audit.specs.Rows.{as_scheduled, as_reported}
use Rattle.rr_draw.specs.declared.cut.Cut.{Cut}
use Rattle.rr_draw.specs.Fates.{Seen}
use Rattle.rr_draw.specs.Pictures.{AreDrawn}

-- the line of a report that an event may be, as lines
abbrev pub lines_of : Option ReportLine → List ReportLine
lines_of None = []
lines_of (Some l) = l ∷ []

-- the line of a report that an event of a tape is, if it is one
abbrev pub lines_on : TapeEvent → List ReportLine
lines_on e = lines_of (as_reported e)

-- an event of a tape as one of a schedule, where these messages were sent by then
abbrev pub seen_on : List Message → TapeEvent → Seen
seen_on wire e = record { event = as_scheduled e; lines = lines_on e; wire = wire }

-- the events of a tape, where these messages were sent before them
abbrev pub all_on : List Message → List TapeEvent → List Seen
all_on before [] = []
all_on before (e ∷ es) = seen_on (before ++ sent_by e) e ∷ all_on (before ++ sent_by e) es

-- the text is a picture of the tape: it has what it draws of each of its events, in their order
pub record IsTapePicture (cut : Cut) (tape : Taped) (text : List ℕ) : Type 0 where
  pub front : List ℕ
  pub middle : List ℕ
  pub back : List ℕ
  pub are_drawn : AreDrawn cut 2 [] (all_on [] tape.events) middle
  pub whole : text ≡ front ++ middle ++ back
