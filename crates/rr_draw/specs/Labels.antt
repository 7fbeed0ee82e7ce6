-- What a picture says in words of messages, openings, refusals and decisions.
use Rattle.std.specs.Prelude.{ℕ, Bool, true, false, not, ◌&&◌, ◌==◌, nat_lt, if◌then◌else◌, List, [], ◌∷◌, ◌++◌, length, take, drop, Option, None, Some, codes, decimal}
use Rattle.std.specs.Option.{option_map_or}
use Rattle.std.specs.List.{flat_map, filter_map}
use Rattle.rr_types.specs.declared.fact.Fact.{Fact}
use Rattle.rr_types.specs.declared.fact.Fact.TheVariants.{Decide}
use Rattle.rr_types.specs.declared.message.Body.{Body}
use Rattle.rr_types.specs.declared.message.Body.TheVariants as says
use Rattle.rr_types.specs.declared.message.Message.{Message}
use Rattle.rr_types.specs.declared.refusal.Refusal.{Refusal}
use Rattle.rr_types.specs.declared.refusal.Refusal.TheVariants.{Down, Failed}
use Rattle.rr_types.specs.Messages.{message_kind, message_word}
use Rattle.rr_types.specs.Refusal.{name_of}
use Rattle.rr_text.specs.declared.event.Event.{Event}
use Rattle.rr_text.specs.declared.event.Happening.{Happening}
use Rattle.rr_text.specs.declared.event.Happening.TheVariants.{At, Fail}
use Rattle.rr_types.specs.declared.event.NodeEvent.TheVariants.{Device}
use Rattle.rr_text.specs.declared.report.ReportLine.{ReportLine}
use Rattle.rr_text.specs.declared.report.ReportLine.TheVariants as line
use Rattle.rr_text.specs.ReportTexts.{request_text, report_words}
use Rattle.rr_text.specs.Words.{spaced}
use Rattle.rr_draw.specs.declared.cut.Cut.{Cut}

-- ---- messages

-- an instance and a round, with a point between them
abbrev pub round_text : ℕ → ℕ → List ℕ
round_text i r = decimal i ++ 46 ∷ decimal r

-- what a message is about: its instance, with its round where it has one, or its request
abbrev pub about : Body → List ℕ
about (says.Estimate i e) = 32 ∷ round_text i e.round
about (says.Proposal i r c) = 32 ∷ round_text i r
about (says.Ack i r) = 32 ∷ round_text i r
about (says.Decision i c) = 32 ∷ decimal i
about (says.Request c) = 32 ∷ request_text c.request
about (says.Nack i r) = 32 ∷ round_text i r
about says.Beat = []
about (says.Suspects set) = []
about (says.Ask i) = 32 ∷ decimal i

-- the name of a message: its kind, and what it is about
abbrev pub message_name : Body → List ℕ
message_name body = message_word (message_kind body) ++ about body

-- what a title says of the message that is heard: its number, its sender and its name
abbrev pub heard_words : Option (ℕ × Message) → List ℕ
heard_words None = []
heard_words (Some it) =
    codes "message " ++ decimal it.0 ++ codes " from " ++ decimal it.1.from ++ codes ": " ++ message_name it.1.body

-- ---- a node and its disk

-- what a node has opened with: how many facts, and how many decided commands
abbrev pub opened_words : ℕ → ℕ → List ℕ
opened_words facts decided = codes "opened: facts " ++ decimal facts ++ codes ", decided " ++ decimal decided

-- whether a device call is what happens
abbrev pub happens_as_call : Happening → Bool
happens_as_call (At Device) = true
happens_as_call (Fail fill) = true
happens_as_call _ = false

-- whether an event is a device call
abbrev pub is_call : Event → Bool
is_call e = happens_as_call e.what

-- whether a node refuses a device call for this before it makes it
abbrev pub is_before_the_call : Refusal → Bool
is_before_the_call Down = true
is_before_the_call Failed = true
is_before_the_call _ = false

-- whether a refusal is that of a device call that was made
abbrev pub is_of_a_call : Event → Refusal → Bool
is_of_a_call e r = is_call e && not (is_before_the_call r)

-- what is said of an event that is refused
abbrev pub refused_words : Event → Refusal → List ℕ
refused_words e r = (if is_of_a_call e r then codes "call fails: " else codes "refused: ") ++ name_of r

-- what is told of a reply: the line behind `ack P `, where P is one digit
abbrev pub replied_words : ReportLine → List ℕ
replied_words l = drop 6 (spaced (report_words l))

-- what the label beside an event says of its line of the report
abbrev pub told_words : Event → ReportLine → List ℕ
told_words e (line.Send k m) = message_name m.body
told_words e (line.Ack p q r) = replied_words (line.Ack p q r)
told_words e (line.Restart p facts decided bindings) = opened_words facts decided
told_words e (line.Refuse at r) = refused_words e r

-- the same, where it may have none
abbrev pub line_words : Event → Option ReportLine → List ℕ
line_words e None = []
line_words e (Some l) = told_words e l

-- ---- decisions

-- the instance that a fact decides, of one instance or of all
abbrev pub decision_of : Option ℕ → Fact → Option ℕ
decision_of one (Decide i c) = if option_map_or (λ j. j == i) one true then Some i else None
decision_of one _ = None

-- the instances that facts decide
abbrev pub decided_by : Cut → List Fact → List ℕ
decided_by cut facts = filter_map (decision_of cut.instance) facts

-- what a mark says of the instances that its group decides: the first four, and whether there are more
abbrev pub decided_words : List ℕ → List ℕ
decided_words instances =
    codes "decided" ++ flat_map (λ i. 32 ∷ decimal i) (take 4 instances) ++ (if nat_lt 4 (length instances) then codes " .." else [])
