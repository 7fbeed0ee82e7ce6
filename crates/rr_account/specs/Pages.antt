-- The data of a page of a run: the number of nodes, and what came of the events on some lines, with what they decide.
use Rattle.std.specs.Prelude.{◌≡◌, ℕ, ◌+◌, ◌-◌, Bool, ◌&&◌, nat_le, if◌then◌else◌, List, [], ◌∷◌, ◌++◌, codes, Option, None, Some, slice_get}
use Rattle.std.specs.Option.{option_map_or}
use Rattle.rr_text.specs.declared.event.Event.{Event}
use Rattle.rr_text.specs.declared.report.ReportLine.{ReportLine}
use Rattle.rr_json.specs.Json.{label, number_member, opened}
use Rattle.rr_json.specs.Objects.{decided_objects}
use Rattle.rr_account.specs.Accounts.{Accounted}
use Rattle.rr_account.specs.Decisions.{AreDecisions}
use Rattle.rr_account.specs.Objects.{event_object, Happening, happening_front, IsExplanation}

-- the line with which the data begin
abbrev pub page_head : ℕ → List ℕ
page_head n = opened (codes "run") ++ number_member (codes "nodes") n ++ 125 ∷ 10 ∷ []

-- the instance that an event decides as a member, if it decides one
abbrev pub decides_member : Option ℕ → List ℕ
decides_member None = []
decides_member (Some i) = number_member (codes "decides") i

-- the object of an event on this line: that of an explanation, with the instance that it decides
abbrev pub page_object : ℕ → Happening → Option ℕ → List ℕ
page_object at h decides =
    happening_front h.line h.idle ++ decides_member decides ++ label (codes "event") ++ event_object at h.event h.note ++ 125 ∷ 10 ∷ []

-- a text has grown by the object of an event on this line, with this line of the report, whether it came to nothing, and the
-- instance that it decides
pub record IsPageObject (at : ℕ) (event : Event) (line : Option ReportLine) (idle : Bool) (decides : Option ℕ) (old new : List ℕ) : Type 0 where
  pub note : Option (List ℕ)
  pub grew : new ≡ old ++ page_object at (record { event = event; line = line; idle = idle; note = note }) decides

-- the same where the event lies within lines; else nothing
abbrev pub page_object_within : ℕ → ℕ → ℕ → Happening → Option ℕ → List ℕ
page_object_within from to at h decides = if nat_le from at && nat_le at to then page_object at h decides else []

-- a text has grown by the object of an event on this line, where that lies within lines
pub record IsPageObjectWithin (from to at : ℕ) (event : Event) (line : Option ReportLine) (idle : Bool) (decides : Option ℕ) (old new : List ℕ) : Type 0 where
  pub note : Option (List ℕ)
  pub grew : new ≡ old ++ page_object_within from to at (record { event = event; line = line; idle = idle; note = note }) decides

-- the instance that the event of a line decides, if it decides one; the first event stands on line 2
abbrev pub decided_on : List (Option ℕ) → ℕ → Option ℕ
decided_on decided at = option_map_or (λ d. d) (slice_get decided (at - 2)) None

-- the objects of events within lines, of which the first stands on this line
abbrev pub page_objects : ℕ → ℕ → List (Option ℕ) → ℕ → List Happening → List ℕ
page_objects from to decided at [] = []
page_objects from to decided at (h ∷ hs) = page_object_within from to at h (decided_on decided at) ++ page_objects from to decided (at + 1) hs

-- a text has the data of a page about the events of an account within lines: their objects as an explanation of all events has
-- them, with what they decide, and those of the decided commands
pub record IsPageData (account : Accounted) (from to : ℕ) (text : List ℕ) : Type 0 where
  pub whole : List ℕ
  pub explains : IsExplanation account whole
  pub decided : List (Option ℕ)
  pub are_decisions : AreDecisions account decided
  pub text_is : text ≡ page_head account.schedule.nodes ++ page_objects from to decided 2 explains.happenings ++ decided_objects account.report.decided
