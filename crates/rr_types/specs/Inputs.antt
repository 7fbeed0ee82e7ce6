-- What a node is told, by the messages themselves or by their numbers on a wire.
use Rattle.std.specs.Prelude.{ℕ, ◌==◌, if◌then◌else◌, List, Option, None, Some, slice_get}
use Rattle.std.specs.Option.{option_map, option_and_then}
use Rattle.rr_types.specs.declared.input.Input.{Input}
use Rattle.rr_types.specs.declared.input.Input.TheVariants.{Submit, Hear, Suspect, Tick, Advance}
use Rattle.rr_types.specs.declared.event.NodeEvent.{NodeEvent}
use Rattle.rr_types.specs.declared.event.NodeEvent.TheVariants.{Told, Take, Device, Mark, Send, Acknowledge, Snap, Restart}
use Rattle.rr_types.specs.declared.message.Message.{Message}

-- it is no message
abbrev pub HearsNothing : {M : Type 0} → Input M → Type 0
HearsNothing (Submit c) = Unit {0}
HearsNothing (Hear m) = ⊥
HearsNothing (Suspect set) = Unit {0}
HearsNothing Tick = Unit {0}
HearsNothing Advance = Unit {0}

-- what a node is told where messages go by other names; none where it hears one without a name
abbrev pub told_as : {M N : Type 0} → (M → Option N) → Input M → Option (Input N)
told_as name (Submit c) = Some (Submit c)
told_as name (Hear m) = option_map Hear (name m)
told_as name (Suspect set) = Some (Suspect set)
told_as name Tick = Some Tick
told_as name Advance = Some Advance

-- the same of what happens at a node
abbrev pub happens_as : {M N : Type 0} → (M → Option N) → NodeEvent M → Option (NodeEvent N)
happens_as name (Told input) = option_map Told (told_as name input)
happens_as name Take = Some Take
happens_as name Device = Some Device
happens_as name Mark = Some Mark
happens_as name Send = Some Send
happens_as name Acknowledge = Some Acknowledge
happens_as name Snap = Some Snap
happens_as name Restart = Some Restart

-- message number k of a wire, where it is there and for node p
abbrev pub message_on : List Message → ℕ → ℕ → Option Message
message_on wire p k = option_and_then (λ m. if m.to == p then Some m else None) (slice_get wire k)
