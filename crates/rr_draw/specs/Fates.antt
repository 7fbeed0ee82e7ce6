-- What is seen at an event of a run: the message that it sends or hears, what becomes of that, and what it speaks of.
use Rattle.std.specs.Prelude.{◌≡◌, ◌⊎◌, ℕ, ◌+◌, ◌-◌, ◌*◌, Bool, true, false, not, ◌&&◌, ◌==◌, if◌then◌else◌, List, [], ◌∷◌, ◌++◌, Option, None, Some, slice_get, filter, option_map, option_to_list, codes, decimal}
use Rattle.std.specs.Ordering.{nat_cmp}
use Rattle.std.specs.Option.{option_map_or}
use Rattle.std.specs.List.{flat_map, list_any, range_with_len}
use Rattle.std.specs.BTreeSet.{contains}
use Rattle.rr_types.specs.declared.message.Body.{Body}
use Rattle.rr_types.specs.declared.message.Body.TheVariants as says
use Rattle.rr_types.specs.declared.message.Message.{Message}
use Rattle.rr_types.specs.declared.message.MessageKind.{MessageKind}
use Rattle.rr_types.specs.declared.message.MessageKind.TheVariants.{Estimate, Proposal, Ack, Decision, Request, Nack, Beat, Suspects, Ask}
use Rattle.rr_types.specs.Messages.{message_kind}
use Rattle.rr_text.specs.declared.event.Event.{Event}
use Rattle.rr_text.specs.declared.event.Happening.{Happening}
use Rattle.rr_text.specs.declared.event.Happening.TheVariants.{At}
use Rattle.rr_types.specs.declared.input.Input.TheVariants.{Hear}
use Rattle.rr_types.specs.declared.event.NodeEvent.TheVariants as node
use Rattle.rr_text.specs.declared.report.ReportLine.{ReportLine}
use Rattle.rr_text.specs.declared.report.ReportLine.TheVariants as line
use Rattle.rr_draw.specs.declared.cut.Cut.{Cut}
use Rattle.rr_draw.specs.declared.fate.Fate.{Fate}
use Rattle.rr_draw.specs.declared.fate.Fate.TheVariants.{First, Again}
use Rattle.rr_draw.specs.declared.fate.Heard.{Heard}

-- an event of a run, the lines that the report has of it, and the messages that were sent by then
pub record Seen : Type 0 where
  pub event : Event
  pub lines : List ReportLine
  pub wire : List Message

-- the message that a line tells as sent
abbrev pub message_in : Option ReportLine → Option Message
message_in (Some (line.Send k m)) = Some m
message_in _ = None

-- whether a line refuses an event
abbrev pub is_refusal : Option ReportLine → Bool
is_refusal (Some (line.Refuse at e)) = true
is_refusal _ = false

-- ---- instances

-- the message that is sent by what happens, or that it names as one to hear
abbrev pub message_by : Happening → List ReportLine → List Message → Option Message
message_by (At node.Send) lines wire = message_in (slice_get lines 0)
message_by (At (node.Told (Hear k))) lines wire = slice_get wire k
message_by _ lines wire = None

-- the message that an event has sent, or that it names as one to hear
abbrev pub message_of : Event → List ReportLine → List Message → Option Message
message_of e lines wire = message_by e.what lines wire

-- the instance that a message speaks of, if it speaks of one
abbrev pub instance_of : Body → Option ℕ
instance_of (says.Estimate i e) = Some i
instance_of (says.Proposal i r c) = Some i
instance_of (says.Ack i r) = Some i
instance_of (says.Decision i c) = Some i
instance_of (says.Request c) = None
instance_of (says.Nack i r) = Some i
instance_of says.Beat = None
instance_of (says.Suspects set) = None
instance_of (says.Ask i) = Some i

-- whether there is a message that speaks of instance i
abbrev pub is_on : ℕ → Option Message → Bool
is_on i None = false
is_on i (Some m) = option_map_or (λ j. j == i) (instance_of m.body) false

-- whether an event speaks of instance i: by the message that it sends or hears, also where that is refused
abbrev pub speaks_of : ℕ → Seen → Bool
speaks_of i seen = is_on i (message_of seen.event seen.lines seen.wire)

-- whether an event speaks of the instance of a cut, where one is given
abbrev pub speaks : Cut → Seen → Bool
speaks cut seen = option_map_or (λ i. speaks_of i seen) cut.instance true

-- whether facts may be synced or marked by what happens
abbrev pub may_tell : Happening → Bool
may_tell (At node.Device) = true
may_tell (At node.Take) = true
may_tell (At node.Mark) = true
may_tell _ = false

-- whether facts may be synced or marked at an event
abbrev pub may_tell_facts : Event → Bool
may_tell_facts e = may_tell e.what

-- ---- fates

-- the number of a message that is there, and the message, where a node hears it: it is for that node, which doesn't refuse it
abbrev pub hearing : ℕ → ℕ → List ReportLine → Option Message → Option (ℕ × Message)
hearing p k lines None = None
hearing p k lines (Some m) = if m.to == p && not (is_refusal (slice_get lines 0)) then Some (k, m) else None

-- the message that node p hears by what happens
abbrev pub heard_in : ℕ → Happening → List ReportLine → List Message → Option (ℕ × Message)
heard_in p (At (node.Told (Hear k))) lines wire = hearing p k lines (slice_get wire k)
heard_in p _ lines wire = None

-- the message that an event hears
abbrev pub heard_by : Event → List ReportLine → List Message → Option (ℕ × Message)
heard_by e lines wire = heard_in e.node e.what lines wire

-- its number
abbrev pub number_of : Option (ℕ × Message) → List ℕ
number_of it = option_to_list (option_map (λ m. m.0) it)

-- the numbers of the messages that are heard at events, in turn
abbrev pub heard_at : Seen → List ℕ
heard_at seen = number_of (heard_by seen.event seen.lines seen.wire)

abbrev pub hearings : List Seen → List ℕ
hearings all = flat_map heard_at all

-- whether a message is among those that were heard
abbrev pub is_among : List ℕ → ℕ → Bool
is_among heard k = list_any (λ n. n == k) heard

-- what becomes of a message that is heard, by those that were heard before
abbrev pub fate_at : List ℕ → ℕ → Fate
fate_at before k = if is_among before k then Again else First

-- the messages that were never heard, of so many that were sent
abbrev pub never_heard : List ℕ → ℕ → List ℕ
never_heard heard sent = filter (λ k. not (is_among heard k)) (range_with_len 0 sent)

-- a record of what was heard has these messages
abbrev pub Keeps : Heard → List ℕ → Type 0
Keeps heard before = (k : ℕ) → contains nat_cmp heard.numbers k ≡ is_among before k

-- ---- arrows

-- the class of a kind of messages
abbrev pub class_of : MessageKind → List ℕ
class_of Estimate = codes "e"
class_of Proposal = codes "p"
class_of Ack = codes "a"
class_of Decision = codes "d"
class_of Request = codes "q"
class_of Nack = codes "o"
class_of Beat = codes "o"
class_of Suspects = codes "o"
class_of Ask = codes "o"

-- the class of a fate
abbrev pub fate_class : Fate → List ℕ
fate_class First = []
fate_class Again = codes "again"

-- how far from the left a node's line stands
abbrev pub x_of : ℕ → ℕ
x_of p = 150 + 220 * p

-- a place: how far from the left, and how far down
abbrev pub place : ℕ → ℕ → List ℕ
place x y = decimal x ++ 32 ∷ decimal y

-- an end of a line, with what stands before its two numbers
abbrev pub end_text : List ℕ → ℕ → List ℕ → ℕ → List ℕ
end_text of_x x of_y y = of_x ++ decimal x ++ of_y ++ decimal y

-- the ends of an arrow from one line to another, and those of one from a line to itself, which makes a bow to the left
abbrev pub line_ends : ℕ → ℕ → ℕ → ℕ → List ℕ
line_ends x1 y1 x2 y2 =
    end_text (codes " marker-end=\"url(#m)\" x1=\"") x1 (codes "\" y1=\"") y1
    ++ end_text (codes "\" x2=\"") x2 (codes "\" y2=\"") y2 ++ codes "\"/>"

abbrev pub bow_ends : ℕ → ℕ → ℕ → List ℕ
bow_ends x y1 y2 =
    (codes " marker-end=\"url(#m)\" d=\"M" ++ place x y1) ++ (codes "C" ++ place (x - 22) y1) ++ (codes " " ++ place (x - 22) y2)
    ++ (codes " " ++ place x y2) ++ codes "\"/>"

-- what an arrow begins with: its classes are those of its message and of its fate
abbrev pub arrow_front : Bool → MessageKind → Fate → List ℕ
arrow_front to_itself kind fate =
    (if to_itself then codes "<path" else codes "<line") ++ codes " class=\"" ++ class_of kind ++ codes " " ++ fate_class fate ++ codes "\""

-- the text of an arrow: it goes from this place on the line of the sender to that on the line of the addressee
abbrev pub arrow : ℕ → ℕ → MessageKind → Fate → ℕ → ℕ → List ℕ
arrow from to kind fate y1 y2 =
    arrow_front (from == to) kind fate ++ (if from == to then bow_ends (x_of from) y1 y2 else line_ends (x_of from) y1 (x_of to) y2)

-- a text is an arrow of a kind and a fate, from one node to another
abbrev pub IsArrow : ℕ → ℕ → MessageKind → Fate → List ℕ → Type 0
IsArrow from to kind fate text = (y1 : ℕ) × (y2 : ℕ) × (text ≡ arrow from to kind fate y1 y2)

-- whether messages of a kind are folded in a long picture
abbrev pub folds : Cut → MessageKind → Bool
folds cut Request = not cut.requests
folds cut Beat = true
folds cut Suspects = true
folds cut _ = false

-- what is drawn of the message that an event hears, by those that were heard before: an arrow of its fate, from its sender to its
-- addressee, or nothing where it is folded. Of an event that hears none there is no arrow
abbrev pub IsHearing : Cut → List ℕ → Option (ℕ × Message) → List ℕ → Type 0
IsHearing cut before None text = text ≡ []
IsHearing cut before (Some it) text =
    IsArrow it.1.from it.1.to (message_kind it.1.body) (fate_at before it.0) text ⊎ ((folds cut (message_kind it.1.body) ≡ true) × (text ≡ []))
