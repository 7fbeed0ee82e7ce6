-- Events of schedules, and their kinds.
use Rattle.std.specs.Prelude.{ℕ}
use Rattle.rr_types.specs.declared.input.Input.{Input}
use Rattle.rr_types.specs.declared.input.Input.TheVariants as input
use Rattle.rr_types.specs.declared.event.NodeEvent.{NodeEvent}
use Rattle.rr_types.specs.declared.event.NodeEvent.TheVariants as node
use Rattle.rr_text.specs.declared.event.Event.{Event}
use Rattle.rr_text.specs.declared.event.Happening.{Happening}
use Rattle.rr_text.specs.declared.event.Happening.TheVariants as happening
use Rattle.rr_text.specs.declared.kind.EventKind.{EventKind}
use Rattle.rr_text.specs.declared.kind.EventKind.TheVariants.{Submit, Hear, Suspect, Tick, Advance, Take, Device, Fail, Mark, Send, Ack, Snap, Crash, Restart}

-- an event of node p
abbrev pub event_of : ℕ → NodeEvent ℕ → Event
event_of p event = record { node = p; what = happening.At event }

-- node p is told this
abbrev pub told_at : ℕ → Input ℕ → Event
told_at p input = event_of p (node.Told input)

-- the kind of what a node is told
abbrev pub kind_of_input : Input ℕ → EventKind
kind_of_input (input.Submit c) = Submit
kind_of_input (input.Hear k) = Hear
kind_of_input (input.Suspect set) = Suspect
kind_of_input input.Tick = Tick
kind_of_input input.Advance = Advance

-- the kind of an event of a node
abbrev pub kind_at_node : NodeEvent ℕ → EventKind
kind_at_node (node.Told told) = kind_of_input told
kind_at_node node.Take = Take
kind_at_node node.Device = Device
kind_at_node node.Mark = Mark
kind_at_node node.Send = Send
kind_at_node node.Acknowledge = Ack
kind_at_node node.Snap = Snap
kind_at_node node.Restart = Restart

-- the kind of what happens at a node
abbrev pub kind_of : Happening → EventKind
kind_of (happening.At event) = kind_at_node event
kind_of (happening.Fail fill) = Fail
kind_of (happening.Crash a b fill) = Crash
