-- What a node waits for, which group of it is synced, and which events give nothing.
use Rattle.std.specs.Prelude.{Bool, true, false, ◌||◌, List, [], Option, None, Some, is_some}
use Rattle.std.specs.Option.{option_map_or}
use Rattle.rr_types.specs.declared.fact.Fact.{Fact}
use Rattle.rr_types.specs.declared.refusal.Refusal.{Refusal}
use Rattle.rr_types.specs.declared.refusal.Refusal.TheVariants as because
use Rattle.rr_types.specs.declared.event.NodeEvent.{NodeEvent}
use Rattle.rr_types.specs.declared.message.Message.{Message}
use Rattle.rr_types.specs.declared.event.NodeEvent.TheVariants as at
use Rattle.rr_node.specs.declared.event.Act.{Act}
use Rattle.rr_node.specs.declared.event.Act.TheVariants as act
use Rattle.rr_node.specs.declared.event.Stance.{Stance}
use Rattle.rr_node.specs.declared.event.Stance.TheVariants as waits
use Rattle.rr_node.specs.Seats.{Doing, Stopped, Faulted, Opening, Serving, Flush, Resting, Writing, Flushed, Switching}

-- what a node that is up waits for, by its job
abbrev pub stance_by : Flush → Stance
stance_by Resting = waits.Resting
stance_by (Writing calls) = waits.Calling
stance_by Flushed = waits.Flushed
stance_by (Switching calls) = waits.Calling

-- what a node waits for
abbrev pub stance_of : Doing → Stance
stance_of Stopped = waits.Down
stance_of Faulted = waits.Failed
stance_of (Opening phase) = waits.Opening
stance_of (Serving s journal flush) = stance_by flush

-- the facts of a group that is synced and not marked yet
abbrev pub synced_by : List Fact → Flush → List Fact
synced_by running Resting = []
synced_by running (Writing calls) = []
synced_by running Flushed = running
synced_by running (Switching calls) = []

-- the facts of a node's group that is synced and not marked yet
abbrev pub synced_of : Doing → List Fact
synced_of Stopped = []
synced_of Faulted = []
synced_of (Opening phase) = []
synced_of (Serving s journal flush) = synced_by (option_map_or (λ facts. facts) s.running []) flush

-- the refusal of each event but a restart and a device call, while a node isn't up
abbrev pub refusal_by : Doing → Option Refusal
refusal_by Stopped = Some because.Down
refusal_by Faulted = Some because.Failed
refusal_by (Opening phase) = Some because.Down
refusal_by (Serving s journal flush) = None

-- whether an event gives nothing but, perhaps, a refusal where a node is up: any but a send and an acknowledgement
abbrev pub gives_nothing : NodeEvent Message → Bool
gives_nothing at.Send = false
gives_nothing at.Acknowledge = false
gives_nothing event = true

-- whether a node that does this is up, and the event is such a one
abbrev pub is_quiet : NodeEvent Message → Doing → Bool
is_quiet event Stopped = false
is_quiet event Faulted = false
is_quiet event (Opening phase) = false
is_quiet event (Serving s journal flush) = gives_nothing event

-- the event that an act is
abbrev pub event_of : Act → NodeEvent Message
event_of act.Take = at.Take
event_of act.Device = at.Device
event_of act.Mark = at.Mark
event_of act.Send = at.Send
event_of act.Acknowledge = at.Acknowledge
event_of act.Snap = at.Snap
event_of act.Restart = at.Restart

-- the refusal of an event that a node that does this doesn't take
abbrev pub refusal_at : NodeEvent Message → Doing → Option Refusal
refusal_at at.Restart Stopped = None
refusal_at event Stopped = Some because.Down
refusal_at at.Restart Faulted = None
refusal_at event Faulted = Some because.Failed
refusal_at at.Device (Opening phase) = None
refusal_at at.Restart (Opening phase) = Some because.Busy
refusal_at event (Opening phase) = Some because.Down
refusal_at event (Serving s journal flush) = None

-- whether an event gives nothing but, perhaps, a refusal at a node that does this: it isn't taken, or it is quiet
abbrev pub is_plain : NodeEvent Message → Doing → Bool
is_plain event doing = is_some (refusal_at event doing) || is_quiet event doing
