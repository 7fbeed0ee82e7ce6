-- Events on a tape.
use Rattle.std.specs.Prelude.{◌≡◌, ◌⊎◌, ℕ, ◌+◌, ◌++◌, ◌∷◌, [], Bool, true, false, length, Some}
use Rattle.std.specs.List.{count_by}
use Rattle.std.specs.Option.{option_map_or}
use Rattle.rr_types.specs.Inputs.{told_as}
use Rattle.rr_types.specs.declared.refusal.Refusal.{Refusal}
use Rattle.rr_types.specs.declared.refusal.Refusal.TheVariants.{OutOfMemory, BadEvent}
use Rattle.rr_types.specs.Limits.{max_events}
use Rattle.rr_text.specs.declared.tape_event.TapeEvent.{TapeEvent}
use Rattle.rr_text.specs.declared.tape_event.Recorded.{Recorded}
use Rattle.rr_text.specs.declared.tape_event.Recorded.TheVariants as tape
use Rattle.rr_text.specs.Taped.{Taped, of_node, IsTapeEvent}
use Rattle.rr_types.specs.declared.message.Message.{Message}
use Rattle.rr_types.specs.declared.input.Input.{Input}
use Rattle.rr_types.specs.declared.input.Input.TheVariants as told

-- a message on its way, and its number on the tape
pub record Sent : Type 0 where
  pub number : ℕ
  pub message : Message

-- an input, where the message that it hears, if it hears one, goes by number k
abbrev pub numbered : ℕ → Input Message → Input ℕ
numbered k input = option_map_or (λ i. i) (told_as (λ m. Some k) input) (told.Hear k)

-- an input of node p as an event of a tape, on which a message that it hears has number k
abbrev pub event_of : ℕ → ℕ → Input Message → TapeEvent
event_of p k input = of_node p (tape.Told (numbered k input))

-- whether it is a message that was sent
abbrev pub is_sent : Recorded → Bool
is_sent (tape.Sent k m) = true
is_sent _ = false

-- whether a message is sent by the event
abbrev pub is_send : TapeEvent → Bool
is_send e = is_sent e.what

-- how many messages are sent on a tape, which is the number of the next
abbrev pub sent_on : Taped → ℕ
sent_on t = count_by is_send t.events

-- the tape with one more event
abbrev pub with_event : Taped → TapeEvent → Taped
with_event t e = record t { events = t.events ++ e ∷ [] }

-- why an event isn't recorded: no memory; or its line has no place, since a million events are on the tape, or since
-- it is none of these nodes'
abbrev pub HasNoPlace : Taped → TapeEvent → Refusal → Type 0
HasNoPlace t event e = (e ≡ OutOfMemory) ⊎ ((e ≡ BadEvent (length t.events + 2)) × ((length t.events ≡ max_events) ⊎ (IsTapeEvent t.nodes event → ⊥)))
