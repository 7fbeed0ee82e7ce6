-- What came of the events of a run, and statistics, as JSON: an object in a line each.
use Rattle.std.specs.Prelude.{◌≡◌, ℕ, ◌+◌, Bool, true, false, List, [], ◌∷◌, ◌++◌, map, take, codes, decimal, Option, None, Some}
use Rattle.std.specs.List.{flat_map}
use Rattle.rr_types.specs.Messages.{message_word}
use Rattle.rr_text.specs.declared.event.Event.{Event}
use Rattle.rr_text.specs.Reading.{keyword_text}
use Rattle.rr_text.specs.declared.report.ReportLine.{ReportLine}
use Rattle.rr_text.specs.ScheduleTexts.{event_text}
use Rattle.rr_json.specs.Json.{quoted, label, begun, number_member, words_member, opened, listed}
use Rattle.rr_json.specs.Objects.{line_front, decided_objects}
use Rattle.rr_account.specs.declared.outcome.Outcome.{Outcome}
use Rattle.rr_account.specs.declared.outcome.Outcome.TheVariants.{Quiet, Told, Idle}
use Rattle.rr_account.specs.Accounts.{Accounted, IsSharedOut}
use Rattle.rr_account.specs.Counts.{AreStatistics}
use Rattle.rr_account.specs.declared.statistics.EventCount.{EventCount}
use Rattle.rr_account.specs.declared.statistics.MessageCount.{MessageCount}
use Rattle.rr_account.specs.declared.statistics.RefusalCount.{RefusalCount}
use Rattle.rr_account.specs.declared.statistics.Statistics.{Statistics}

-- words for people as a member, where there are any
abbrev pub note_member : Option (List ℕ) → List ℕ
note_member None = []
note_member (Some words) = words_member (codes "note") words

-- an event: its line in the schedule, its text, and a note
abbrev pub event_object : ℕ → Event → Option (List ℕ) → List ℕ
event_object at e note = begun (codes "line") ++ decimal at ++ words_member (codes "text") (event_text e) ++ note_member note ++ 125 ∷ []

-- what came of an event: its line of the report, where it has one, whether it came to nothing, and a note
pub record Happening : Type 0 where
  pub event : Event
  pub line : Option ReportLine
  pub idle : Bool
  pub note : Option (List ℕ)

-- the beginning of the object of an event: that of its line of the report, or the kind of an event that has none
abbrev pub happening_front : Option ReportLine → Bool → List ℕ
happening_front (Some l) idle = line_front l
happening_front None true = opened (codes "idle")
happening_front None false = opened (codes "done")

-- the object of an event on this line: its line of the report, where it has one, and the event
abbrev pub happening_object : ℕ → Happening → List ℕ
happening_object at h = happening_front h.line h.idle ++ label (codes "event") ++ event_object at h.event h.note ++ 125 ∷ 10 ∷ []

-- a text has grown by the object of an event on this line, with this line of the report, and whether it came to nothing
pub record IsAnObject (at : ℕ) (event : Event) (line : Option ReportLine) (idle : Bool) (old new : List ℕ) : Type 0 where
  pub note : Option (List ℕ)
  pub grew : new ≡ old ++ happening_object at (record { event = event; line = line; idle = idle; note = note })

-- the objects of events, of which the first stands on this line
abbrev pub happening_objects : ℕ → List Happening → List ℕ
happening_objects at [] = []
happening_objects at (h ∷ hs) = happening_object at h ++ happening_objects (at + 1) hs

-- whether an event came to nothing
abbrev pub came_to_nothing : Outcome → Bool
came_to_nothing Quiet = false
came_to_nothing Told = false
came_to_nothing (Idle why) = true

-- the line that an event has in a report, if any
abbrev pub lines_of : Option ReportLine → List ReportLine
lines_of None = []
lines_of (Some l) = l ∷ []

-- a text is the account as JSON: an object for each event, in their order, then those of the decided commands. The lines of
-- the report that the objects have are its first ones, in their order; each has those of its event, and says if that came to nothing
pub record IsExplanation (account : Accounted) (text : List ℕ) : Type 0 where
  pub happenings : List Happening
  pub count : ℕ
  pub events : map (λ h. h.event) happenings ≡ account.schedule.events
  pub lines : flat_map (λ h. lines_of h.line) happenings ≡ take count account.report.lines
  pub each : (shares : List (List ReportLine)) → IsSharedOut account shares → map (λ h. lines_of h.line) happenings ≡ shares
  pub idle : (shares : List (List ReportLine)) → IsSharedOut account shares → map (λ h. h.idle) happenings ≡ map came_to_nothing account.outcomes
  pub text_is : text ≡ happening_objects 2 happenings ++ decided_objects account.report.decided

-- the counts of a kind of events
abbrev pub event_count_object : EventCount → List ℕ
event_count_object r =
    opened (keyword_text r.kind) ++ number_member (codes "events") r.events ++ number_member (codes "told") r.told
    ++ number_member (codes "refused") r.refused ++ number_member (codes "idle") r.idle ++ 125 ∷ []

-- the counts of a kind of messages
abbrev pub message_count_object : MessageCount → List ℕ
message_count_object r =
    opened (message_word r.kind) ++ number_member (codes "sent") r.sent ++ number_member (codes "heard") r.heard
    ++ number_member (codes "again") r.again ++ number_member (codes "never") r.never ++ 125 ∷ []

-- the refusals of a name
abbrev pub refusal_count_object : RefusalCount → List ℕ
refusal_count_object r = begun (codes "name") ++ quoted r.name.now ++ number_member (codes "refusals") r.refusals ++ 125 ∷ []

-- a member that is an array of these objects
unfoldable pub array_member : List ℕ → List (List ℕ) → List ℕ
array_member name objects = label name ++ 91 ∷ listed objects ++ 93 ∷ []

-- the sums of a run: the beginning of the object of its statistics
abbrev pub sums_front : Statistics → List ℕ
sums_front s =
    begun (codes "nodes") ++ decimal s.nodes ++ number_member (codes "decided") s.decided ++ number_member (codes "rounds") s.rounds
    ++ number_member (codes "device_calls") s.device_calls

-- the line of statistics as an object
abbrev pub statistics_object : Statistics → List ℕ
statistics_object s =
    sums_front s ++ array_member (codes "events") (map event_count_object s.events.items)
    ++ array_member (codes "messages") (map message_count_object s.messages.items)
    ++ array_member (codes "refusals") (map refusal_count_object s.refusals.items) ++ 125 ∷ 10 ∷ []

-- a text is the object of statistics
pub record IsStatistics (text : List ℕ) : Type 0 where
  pub statistics : Statistics
  pub text_is : text ≡ statistics_object statistics

-- a text is the object of the statistics of an account
pub record IsStatisticsOf (account : Accounted) (text : List ℕ) : Type 0 where
  pub statistics : Statistics
  pub are : AreStatistics account statistics
  pub text_is : text ≡ statistics_object statistics
