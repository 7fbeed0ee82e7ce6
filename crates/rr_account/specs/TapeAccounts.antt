-- The account of a tape.
use Rattle.std.specs.Prelude.{◌≡◌, List, map}
use Rattle.std.specs.List.{flat_map}
use Rattle.std.specs.Option.{option_map_or}
use Rattle.rr_model.specs.Sound.{IsDecidedList}
use Rattle.rr_text.specs.declared.report.ReportLine.{ReportLine}
use Rattle.rr_text.specs.declared.tape_event.TapeEvent.{TapeEvent}
use Rattle.rr_text.specs.Taped.{Taped}
use Rattle.rr_audit.specs.Audits.{sent_by}
use Rattle.rr_audit.specs.Rows.{as_scheduled, as_reported}
use Rattle.rr_account.specs.declared.outcome.Outcome.{Outcome}
use Rattle.rr_account.specs.declared.outcome.Outcome.TheVariants.{Told, Quiet}
use Rattle.rr_account.specs.Accounts.{Accounted}
use Rattle.rr_account.specs.Objects.{lines_of}

-- what came of an event: it was told if it is a line of a report, and else it was done
abbrev pub came_of : TapeEvent → Outcome
came_of e = option_map_or (λ l. Told) (as_reported e) Quiet

-- the line of a report that an event is, if any
abbrev pub line_on : TapeEvent → List ReportLine
line_on e = lines_of (as_reported e)

-- the account is that of a tape: its events are those of the tape, what came of each is what the tape has of it, and the report
-- has the messages and replies on the tape, in their order, and the list that these messages decide
pub record IsTapeAccount (tape : Taped) (account : Accounted) : Type 0 where
  pub nodes : account.schedule.nodes ≡ tape.nodes
  pub events : account.schedule.events ≡ map as_scheduled tape.events
  pub outcomes : account.outcomes ≡ map came_of tape.events
  pub lines : account.report.lines ≡ flat_map line_on tape.events
  pub decided : IsDecidedList tape.nodes (flat_map sent_by tape.events) account.report.decided
