-- Counts of a run.
use Rattle.std.specs.Prelude.{◌≡◌, ℕ, ◌+◌, ◌-◌, ◌^◌, Bool, true, false, ◌&&◌, not, ◌==◌, nat_lt, if◌then◌else◌, min, max, List, [], ◌∷◌, length, map, Option, None, Some, slice_get}
use Rattle.std.specs.Option.{option_map_or}
use Rattle.std.specs.List.{AllByRecursion, count_by, sum_by, filter_map, flat_map, range_with_len, zip}
use Rattle.rr_types.specs.declared.message.Body.{Body}
use Rattle.rr_types.specs.declared.message.Body.TheVariants as says
use Rattle.rr_types.specs.declared.message.MessageKind.{MessageKind}
use Rattle.rr_types.specs.declared.message.MessageKind.TheVariants as message
use Rattle.rr_types.specs.declared.refusal.Refusal.{Refusal}
use Rattle.rr_types.specs.declared.refusal.Refusal.TheVariants as because
use Rattle.rr_types.specs.Refusal.{number_of, name_of}
use Rattle.rr_text.specs.declared.event.Event.{Event}
use Rattle.rr_text.specs.declared.event.Happening.{Happening}
use Rattle.rr_text.specs.declared.event.Happening.TheVariants as happening
use Rattle.rr_text.specs.Events.{kind_of}
use Rattle.rr_types.specs.declared.input.Input.TheVariants as input
use Rattle.rr_types.specs.declared.event.NodeEvent.TheVariants as node
use Rattle.rr_text.specs.declared.report.ReportLine.{ReportLine}
use Rattle.rr_text.specs.declared.report.ReportLine.TheVariants as line
use Rattle.rr_text.specs.declared.kind.EventKind.{EventKind}
use Rattle.rr_text.specs.declared.kind.EventKind.TheVariants.{Submit, Hear, Suspect, Tick, Advance, Take, Device, Fail, Mark, Send, Ack, Snap, Crash, Restart}
use Rattle.rr_account.specs.declared.outcome.Outcome.{Outcome}
use Rattle.rr_account.specs.declared.outcome.Outcome.TheVariants as came
use Rattle.rr_account.specs.declared.reasons.Reason.{Reason}
use Rattle.rr_account.specs.declared.reasons.Reason.TheVariants.{Told, Done, Refused, Idle}
use Rattle.rr_account.specs.declared.statistics.EventCount.{EventCount}
use Rattle.rr_account.specs.declared.statistics.MessageCount.{MessageCount}
use Rattle.rr_account.specs.declared.statistics.RefusalCount.{RefusalCount}
use Rattle.rr_account.specs.declared.statistics.Statistics.{Statistics}
use Rattle.rr_account.specs.declared.event_sort.EventSort.{EventSort}
use Rattle.rr_account.specs.declared.event_sort.EventSort.TheVariants as sort
use Rattle.rr_account.specs.Accounts.{Accounted, lines_told}

-- whether two kinds are one
abbrev pub is_kind : EventKind → EventKind → Bool
is_kind Submit Submit = true
is_kind Hear Hear = true
is_kind Suspect Suspect = true
is_kind Tick Tick = true
is_kind Advance Advance = true
is_kind Take Take = true
is_kind Device Device = true
is_kind Fail Fail = true
is_kind Mark Mark = true
is_kind Send Send = true
is_kind Ack Ack = true
is_kind Snap Snap = true
is_kind Crash Crash = true
is_kind Restart Restart = true
is_kind _ _ = false

-- whether an event is of a kind
abbrev pub is_event_kind : EventKind → Event → Bool
is_event_kind kind e = is_kind kind (kind_of e.what)

-- all kinds of events
abbrev pub event_kinds : List EventKind
event_kinds = Submit ∷ Hear ∷ Suspect ∷ Tick ∷ Advance ∷ Take ∷ Device ∷ Fail ∷ Mark ∷ Send ∷ Ack ∷ Snap ∷ Crash ∷ Restart ∷ []

-- how many of the events are of a kind
abbrev pub count_events : EventKind → List Event → ℕ
count_events kind events = count_by (is_event_kind kind) events

-- whether a message says a thing of a kind
abbrev pub is_message_kind : MessageKind → Body → Bool
is_message_kind message.Estimate (says.Estimate i e) = true
is_message_kind message.Proposal (says.Proposal i r c) = true
is_message_kind message.Ack (says.Ack i r) = true
is_message_kind message.Decision (says.Decision i c) = true
is_message_kind message.Request (says.Request c) = true
is_message_kind message.Nack (says.Nack i r) = true
is_message_kind message.Beat says.Beat = true
is_message_kind message.Suspects (says.Suspects s) = true
is_message_kind message.Ask (says.Ask i) = true
is_message_kind _ _ = false

-- all kinds of messages
abbrev pub message_kinds : List MessageKind
message_kinds =
    message.Estimate ∷ message.Proposal ∷ message.Ack ∷ message.Decision ∷ message.Request ∷ message.Nack
    ∷ message.Beat ∷ message.Suspects ∷ message.Ask ∷ []

-- whether a line of a report tells that a message of a kind was sent
abbrev pub is_sent_kind : MessageKind → ReportLine → Bool
is_sent_kind kind (line.Send k m) = is_message_kind kind m.body
is_sent_kind kind _ = false

-- how many lines of a report tell of a message of a kind
abbrev pub count_messages : MessageKind → List ReportLine → ℕ
count_messages kind lines = count_by (is_sent_kind kind) lines

-- ---- what happened

-- what is said of an event that has this line in the report
abbrev pub said_by : ReportLine → Reason
said_by (line.Send k m) = Told
said_by (line.Ack p q r) = Told
said_by (line.Restart p facts decided bindings) = Told
said_by (line.Refuse at e) = Refused e

-- what is said of an event of which this came, and which has this line in the report, if it has one
abbrev pub reason_of : Outcome → Option ReportLine → Reason
reason_of came.Quiet l = Done
reason_of came.Told l = option_map_or said_by l Told
reason_of (came.Idle why) l = Idle why

-- what is said of events of which these came, where a report has so many lines of those before them
abbrev pub reasons_behind : List ReportLine → ℕ → List Outcome → List Reason
reasons_behind lines told [] = []
reasons_behind lines told (o ∷ os) = reason_of o (slice_get lines told) ∷ reasons_behind lines (told + lines_told o) os

-- what is said of each event of a run
abbrev pub reasons_of : Accounted → List Reason
reasons_of a = reasons_behind a.report.lines 0 a.outcomes

-- what happened in a run: its events, with what is said of each
abbrev pub happened : Accounted → List (Event × Reason)
happened a = zip a.schedule.events (reasons_of a)

-- ---- events, by what came of them

abbrev pub is_told : Reason → Bool
is_told Told = true
is_told Done = false
is_told (Refused e) = false
is_told (Idle why) = false

abbrev pub is_refused : Reason → Bool
is_refused Told = false
is_refused Done = false
is_refused (Refused e) = true
is_refused (Idle why) = false

abbrev pub is_idle : Reason → Bool
is_idle Told = false
is_idle Done = false
is_idle (Refused e) = false
is_idle (Idle why) = true

-- whether a node refuses a device call for this before it makes it: it is down or has failed
abbrev pub is_before_the_call : Refusal → Bool
is_before_the_call because.Down = true
is_before_the_call because.Failed = true
is_before_the_call _ = false

-- whether a device call that was due was made
abbrev pub is_made : Reason → Bool
is_made Told = true
is_made Done = true
is_made (Refused e) = not (is_before_the_call e)
is_made (Idle why) = false

-- whether a device call that was to fail was made: then the device refused it
abbrev pub is_made_and_fails : Reason → Bool
is_made_and_fails (Refused because.Device) = true
is_made_and_fails _ = false

-- whether what happened was a device call that was made
abbrev pub is_call : Happening → Reason → Bool
is_call (happening.At node.Device) reason = is_made reason
is_call (happening.Fail fill) reason = is_made_and_fails reason
is_call _ reason = false

-- whether an event made a device call
abbrev pub makes_call : Event → Reason → Bool
makes_call e reason = is_call e.what reason

-- whether an event is one of those that are counted
abbrev pub is_counted : EventSort → Event × Reason → Bool
is_counted (sort.Told kind) it = is_event_kind kind it.0 && is_told it.1
is_counted (sort.Refused kind) it = is_event_kind kind it.0 && is_refused it.1
is_counted (sort.Idle kind) it = is_event_kind kind it.0 && is_idle it.1
is_counted sort.Calls it = makes_call it.0 it.1

-- how many of the events of a run are
abbrev pub how_many : EventSort → Accounted → ℕ
how_many which a = count_by (is_counted which) (happened a)

-- ---- messages, by how often they were heard

abbrev pub is_done : Reason → Bool
is_done Told = false
is_done Done = true
is_done (Refused e) = false
is_done (Idle why) = false

-- the number of the message that was heard, where it was; a hearing that was refused or came to nothing is none
abbrev pub heard_by : Happening → Reason → Option ℕ
heard_by (happening.At (node.Told (input.Hear k))) reason = if is_done reason then Some k else None
heard_by _ reason = None

-- the same of an event
abbrev pub heard_in : Event → Reason → Option ℕ
heard_in e reason = heard_by e.what reason

-- the numbers of the messages that were heard in a run, one for each time
abbrev pub hearings : Accounted → List ℕ
hearings a = filter_map (λ it. heard_in it.0 it.1) (happened a)

-- how often a message is among those that were heard
abbrev pub times : List ℕ → ℕ → ℕ
times heard k = count_by (λ n. n == k) heard

-- how often the message was heard of which a line tells that it was sent, where each was heard so often
abbrev pub times_told : (ℕ → ℕ) → ReportLine → ℕ
times_told often (line.Send k m) = often k
times_told often _ = 0

-- how many of the messages of a kind were heard, and how many never
abbrev pub count_heard : MessageKind → (ℕ → ℕ) → List ReportLine → ℕ
count_heard kind often lines = count_by (λ l. is_sent_kind kind l && nat_lt 0 (times_told often l)) lines

abbrev pub count_never : MessageKind → (ℕ → ℕ) → List ReportLine → ℕ
count_never kind often lines = count_by (λ l. is_sent_kind kind l && times_told often l == 0) lines

-- how often one of them was heard that was heard before
abbrev pub again_by : MessageKind → (ℕ → ℕ) → ReportLine → ℕ
again_by kind often l = if is_sent_kind kind l then times_told often l - 1 else 0

abbrev pub count_again : MessageKind → (ℕ → ℕ) → List ReportLine → ℕ
count_again kind often lines = sum_by (again_by kind often) lines

-- a sum, which stops at the greatest number of 64 bits
abbrev pub stopped : ℕ → ℕ
stopped n = min n (2 ^ 64 - 1)

-- ---- refusals, by their names

-- whether a line of a report refuses an event, by a refusal of the name that this one has
abbrev pub refuses : Refusal → ReportLine → Bool
refuses e (line.Refuse at told) = number_of told == number_of e
refuses e _ = false

-- how many lines do
abbrev pub count_refusals : Refusal → List ReportLine → ℕ
count_refusals e lines = count_by (refuses e) lines

-- a refusal of each name, in the order of their numbers
abbrev pub each_refusal : List Refusal
each_refusal =
    because.OutOfMemory ∷ because.Device ∷ because.Damaged 0 0 ∷ because.Failed ∷ because.Down ∷ because.BadNodes ∷ because.BadName
    ∷ because.BadValue ∷ because.ListFull ∷ because.RoundsOut ∷ because.Malformed 0 ∷ because.StrangeMark ∷ because.Busy
    ∷ because.BadEvent 0 ∷ because.SeatsTaken ∷ because.TooLarge ∷ because.AuditNo 0 ∷ because.NoGuard ∷ []

-- the name of a refusal, and how many lines refuse by it, where any does
abbrev pub refusals_by : List ReportLine → Refusal → List (List ℕ × ℕ)
refusals_by lines e = if nat_lt 0 (count_refusals e lines) then (name_of e, count_refusals e lines) ∷ [] else []

-- what a row of refusals says
abbrev pub said_in : RefusalCount → List ℕ × ℕ
said_in row = (row.name.now, row.refusals)

-- rows say of each name by which lines refuse how many do, in the order of the numbers
abbrev pub AreRefusals : List ReportLine → List RefusalCount → Type 0
AreRefusals lines rows = map said_in rows ≡ flat_map (refusals_by lines) each_refusal

-- ---- rounds

-- the round of instance i that a message names, or 0
abbrev pub round_in : ℕ → Body → ℕ
round_in i (says.Estimate j e) = if j == i then e.round else 0
round_in i (says.Proposal j r c) = if j == i then r else 0
round_in i (says.Ack j r) = if j == i then r else 0
round_in i (says.Decision j c) = 0
round_in i (says.Request c) = 0
round_in i (says.Nack j r) = if j == i then r else 0
round_in i says.Beat = 0
round_in i (says.Suspects set) = 0
round_in i (says.Ask j) = 0

-- the same of a line that tells that a message was sent
abbrev pub round_told : ℕ → ReportLine → ℕ
round_told i (line.Send k m) = round_in i m.body
round_told i _ = 0

-- the highest round of instance i in the messages of which lines tell
abbrev pub highest_round : ℕ → List ReportLine → ℕ
highest_round i [] = 0
highest_round i (l ∷ ls) = max (round_told i l) (highest_round i ls)

-- how many rounds the first instances took, so many: of each its highest
abbrev pub rounds_taken : ℕ → List ReportLine → ℕ
rounds_taken n lines = sum_by (λ rounds. rounds) (map (λ i. highest_round i lines) (range_with_len 0 n))

-- ---- statistics

-- a row has the counts of a kind of events
pub record HasEventCounts (account : Accounted) (row : EventCount) : Type 0 where
  pub events : row.events ≡ count_events row.kind account.schedule.events
  pub told : row.told ≡ how_many (sort.Told row.kind) account
  pub refused : row.refused ≡ how_many (sort.Refused row.kind) account
  pub idle : row.idle ≡ how_many (sort.Idle row.kind) account

-- a row has the counts of a kind of messages
pub record HasMessageCounts (account : Accounted) (row : MessageCount) : Type 0 where
  pub sent : row.sent ≡ count_messages row.kind account.report.lines
  pub heard : row.heard ≡ count_heard row.kind (times (hearings account)) account.report.lines
  pub again : row.again ≡ stopped (count_again row.kind (times (hearings account)) account.report.lines)
  pub never : row.never ≡ count_never row.kind (times (hearings account)) account.report.lines

-- statistics are those of the run of an account
pub record AreStatistics (account : Accounted) (statistics : Statistics) : Type 0 where
  pub kinds : map (λ r. r.kind) statistics.events.items ≡ event_kinds
  pub events : AllByRecursion (HasEventCounts account) statistics.events.items
  pub message_kinds : map (λ r. r.kind) statistics.messages.items ≡ message_kinds
  pub messages : AllByRecursion (HasMessageCounts account) statistics.messages.items
  pub refusals : AreRefusals account.report.lines statistics.refusals.items
  pub decided : statistics.decided ≡ length account.report.decided
  pub rounds : statistics.rounds ≡ stopped (rounds_taken (length account.report.decided) account.report.lines)
  pub calls : statistics.device_calls ≡ how_many sort.Calls account
