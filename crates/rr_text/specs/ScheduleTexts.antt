-- The text of a schedule.
use Rattle.std.specs.Prelude.{◌≡◌, ℕ, List, [], ◌∷◌, ◌++◌, decimal}
use Rattle.std.specs.List.{flat_map}
use Rattle.rr_types.specs.declared.input.Input.{Input}
use Rattle.rr_types.specs.declared.input.Input.TheVariants.{Submit, Hear, Suspect}
use Rattle.rr_types.specs.declared.event.NodeEvent.TheVariants.{Told}
use Rattle.rr_text.specs.declared.event.Event.{Event}
use Rattle.rr_text.specs.declared.event.Happening.{Happening}
use Rattle.rr_text.specs.declared.event.Happening.TheVariants.{At, Fail, Crash}
use Rattle.rr_text.specs.Events.{told_at, kind_of}
use Rattle.rr_text.specs.Words.{spaced, op_words, set_text, fill_text}
use Rattle.rr_text.specs.Lines.{nodes_line}
use Rattle.rr_text.specs.Reading.{keyword_text}
use Rattle.rr_text.specs.Scheduled.{Scheduled, IsEvent}

-- what a node is told, as words
abbrev pub input_words : Input ℕ → List (List ℕ)
input_words (Submit c) = decimal c.request.client ∷ decimal c.request.seq ∷ op_words c.op
input_words (Hear k) = decimal k ∷ []
input_words (Suspect s) = set_text s ∷ []
input_words _ = []

-- what an event is about beside its node, as words
abbrev pub field_words : Happening → List (List ℕ)
field_words (At (Told input)) = input_words input
field_words (At event) = []
field_words (Fail f) = fill_text f ∷ []
field_words (Crash a b f) = decimal a ∷ decimal b ∷ fill_text f ∷ []

-- an event as words: what happens, at which node, and what it is about
abbrev pub event_words : Event → List (List ℕ)
event_words e = keyword_text (kind_of e.what) ∷ decimal e.node ∷ field_words e.what

-- the text of an event: its words, divided by one space
abbrev pub event_text : Event → List ℕ
event_text e = spaced (event_words e)

-- the line of an event: its text and a line feed
abbrev pub event_line : Event → List ℕ
event_line e = event_text e ++ 10 ∷ []

-- no line on hearing a message stands at the front of the bytes, among n nodes
abbrev pub HearsNothing : ℕ → List ℕ → Type 0
HearsNothing n bytes = (p k : ℕ) (more : List ℕ) → IsEvent n (told_at p (Hear k)) → bytes ≡ event_line (told_at p (Hear k)) ++ more → ⊥

-- the text of a schedule: how many nodes there are, then a line an event
abbrev pub schedule_text : Scheduled → List ℕ
schedule_text s = nodes_line s.nodes ++ flat_map event_line s.events
