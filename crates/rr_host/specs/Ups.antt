-- What a node that is up does by the calls of its host.
use Rattle.std.specs.Prelude.{◌≡◌, ◌≢◌, ◌⊎◌, ◌+◌, ℕ, Bool, true, false, List, [], length, nat_le, count_ones, Option, None, Some, Result, Ok, Err, if◌then◌else◌}
use Rattle.std.specs.Option.{option_map_or}
use Rattle.rr_types.specs.declared.input.Input.{Input}
use Rattle.rr_types.specs.declared.input.Input.TheVariants.{Hear, Tick, Advance}
use Rattle.rr_types.specs.declared.message.Message.{Message}
use Rattle.rr_types.specs.declared.refusal.Refusal.{Refusal}
use Rattle.rr_types.specs.declared.refusal.Refusal.TheVariants.{OutOfMemory, RoundsOut}
use Rattle.rr_types.specs.Groups.{Grouped}
use Rattle.rr_types.specs.Nodes.{without_member}
use Rattle.rr_types.specs.Rounds.{majority_of}
use Rattle.rr_model.specs.NodeState.{NodeState, decided_prefix}
use Rattle.rr_model.specs.NodeStep.{node_step, refusal_of, group_taken, running_group, marked_running, next_leaving, message_left}
use Rattle.rr_frame.specs.GroupFormat.{group_bytes}
use Rattle.rr_journal.specs.Flushes as gate
use Rattle.rr_journal.specs.Calls.{frame_bytes}
use Rattle.rr_journal.specs.declared.journal.Journal.{Journal}
use Rattle.rr_frame.specs.MessageFormat.{message_bytes}
use Rattle.rr_host.specs.Chases.{Chase, again, chase_again, chase_ticked, is_gaining, heard_of, chase_of, chase_sent}
use Rattle.rr_host.specs.declared.standstill.Found.{Found}
use Rattle.rr_host.specs.Standstills.{is_advance_due, standstill_after}
use Rattle.rr_host.specs.Disks.{DiskState, called, noted}
use Rattle.rr_host.specs.declared.chase.Hearing.{Hearing}
use Rattle.rr_host.specs.declared.chase.Hearing.TheVariants.{Alone, Nothing, After, Before}
use Rattle.rr_host.specs.declared.flush.Flush as code
use Rattle.rr_host.specs.declared.flush.Flush.TheVariants as flush
use Rattle.rr_host.specs.declared.up.Up.{Up}
use Rattle.rr_host.specs.declared.up.Stop.{Stop}
use Rattle.rr_host.specs.declared.up.Stop.TheVariants.{Refused, Fallen}
use Rattle.rr_host.specs.declared.up.Leaving.{Leaving}
use Rattle.rr_host.specs.declared.up.Leaving.TheVariants as leaving

-- ---- inputs

-- a node in this state refuses the input: memory is wanting, or by its definition
abbrev pub Refuses : Input Message → NodeState → Refusal → Type 0
Refuses input s e = (e ≡ OutOfMemory) ⊎ (refusal_of input s ≡ Some e)

-- how many commands are decided
abbrev pub decided_in : NodeState → ℕ
decided_in s = length (decided_prefix s)

-- the state once a message is heard, and what the chase has the node hear
abbrev pub heard_by : Hearing → Message → NodeState → NodeState
heard_by Alone m s = node_step (Hear m) s
heard_by Nothing m s = s
heard_by (After held) m s = node_step (Hear m) (node_step (Hear held) s)
heard_by (Before next) m s = node_step (Hear next) (node_step (Hear m) s)

-- of two messages the first is refused, or the second behind it
abbrev pub StopsAtOne : Message → Message → NodeState → NodeState → Refusal → Type 0
StopsAtOne first second s t e =
    ((t ≡ s) × Refuses (Hear first) s e) ⊎ ((t ≡ node_step (Hear first) s) × Refuses (Hear second) (node_step (Hear first) s) e)

-- one of them is refused
abbrev pub StopsIn : Hearing → Message → NodeState → NodeState → Refusal → Type 0
StopsIn Alone m s t e = (t ≡ s) × Refuses (Hear m) s e
StopsIn Nothing m s t e = ⊥
StopsIn (After held) m s t e = StopsAtOne held m s t e
StopsIn (Before next) m s t e = StopsAtOne m next s t e

-- a message has come
abbrev pub heard : Message → Up → Up
heard m u =
    record u {
      core = heard_by (heard_of (decided_in u.core) m.body u.chase) m u.core;
      chase = chase_of (decided_in u.core) m.body m u.chase;
    }

-- ---- ticks

-- what is heard again at a tick
abbrev pub again_of : Up → Option Message
again_of u = again (decided_in u.core) (chase_ticked u.chase)

-- the chase then
abbrev pub ticked_chase : Up → Chase
ticked_chase u = record (chase_again (decided_in u.core) (chase_ticked u.chase)) { seen = decided_in u.core }

-- the node then
abbrev pub heard_again : Up → Up
heard_again u = record u { core = option_map_or (λ m. node_step (Hear m) u.core) (again_of u) u.core; chase = ticked_chase u }

-- a node that is catching up doesn't tick
abbrev pub is_catching_up : Up → Bool
is_catching_up u = is_gaining (decided_in u.core) (chase_again (decided_in u.core) (chase_ticked u.chase))

-- where it is time to, the next round of the lowest open instance is entered, unless that is in the last
abbrev pub Advances : Bool → NodeState → NodeState → Type 0
Advances false s t = t ≡ s
Advances true s t = (t ≡ node_step Advance s) ⊎ ((t ≡ s) × (refusal_of Advance s ≡ Some RoundsOut))

-- what a node finds at a tick; it disregards itself among its suspects
abbrev pub found_in : NodeState → Found
found_in s = record {
  decided = decided_in s;
  facts = s.marked_end;
  has_majority = nat_le (majority_of s.nodes + count_ones (without_member s.suspects s.node)) s.nodes;
}

-- a tick, and an advance where one is due
pub record Beats (u v : Up) : Type 0 where
  pub advances : Advances (is_advance_due (found_in (node_step Tick u.core)) u.standstill) (node_step Tick u.core) v.core
  pub rest : v ≡ record u { core = v.core; standstill = standstill_after (found_in (node_step Tick u.core)) u.standstill }

-- a tick of the host's clock
abbrev pub TicksOr : Bool → Up → Up → Type 0
TicksOr true u v = v ≡ u
TicksOr false u v = Beats u v

abbrev pub Ticks : Up → Up → Type 0
Ticks u v = TicksOr (is_catching_up u) (heard_again u) v

-- a message, if there is one, is refused
abbrev pub RefusesAny : Option Message → NodeState → Refusal → Type 0
RefusesAny None s e = ⊥
RefusesAny (Some m) s e = Refuses (Hear m) s e

-- the tick is refused, or the advance behind it
abbrev pub StopsBeat : NodeState → NodeState → Refusal → Type 0
StopsBeat s t e = ((t ≡ s) × Refuses Tick s e) ⊎ ((t ≡ node_step Tick s) × Refuses Advance (node_step Tick s) e)

-- what is heard again is refused, or what comes behind it
abbrev pub StopsTick : Up → Up → Refusal → Type 0
StopsTick u v e = ((v.core ≡ u.core) × RefusesAny (again_of u) u.core e) ⊎ StopsBeat (heard_again u).core v.core e

-- ---- what leaves

-- the oldest message that may leave does: one for the node itself is heard, and of another the bytes are handed out. Where memory is
-- wanting it is lost
abbrev pub Leaves : Up → Result Leaving Refusal → Up → Type 0
Leaves u (Ok leaving.Nothing) v = (next_leaving u.core ≡ None) × (v ≡ u)
Leaves u (Ok leaving.Own) v =
    (m : Message) × (next_leaving u.core ≡ Some m) × (m.to ≡ u.core.node) × (v ≡ record u { core = node_step (Hear m) (message_left u.core) })
Leaves u (Ok (leaving.Out to bytes)) v =
    (m : Message) × (next_leaving u.core ≡ Some m) × (m.to ≢ u.core.node) × (to ≡ m.to) × (bytes ≡ message_bytes m)
    × (v ≡ record u { core = message_left u.core; chase = chase_sent m.body u.chase })
Leaves u (Err e) v = (m : Message) × (next_leaving u.core ≡ Some m) × (v.core ≡ message_left u.core) × Refuses (Hear m) (message_left u.core) e

-- ---- groups

-- a call stopped without a change
abbrev pub IsRefused : Stop → Type 0
IsRefused (Refused e) = Unit {0}
IsRefused (Fallen e) = ⊥

-- a synced group is marked; nothing happens where there is none
abbrev pub MarksBy : code.Flush → Up → Up → Type 0
MarksBy (flush.Flushed synced) u v =
    (running_group u.core ≡ Some synced.group) × (synced.node ≡ u.core.node) × (v ≡ record u { core = marked_running u.core; flush = flush.Resting })
MarksBy _ u v = v ≡ u

abbrev pub Marks : Up → Up → Type 0
Marks u v = MarksBy u.flush u v

-- the flush of a group behind the last gate of a journal
abbrev pub flush_of : Journal DiskState → Grouped → gate.Flush
flush_of j group = record { nodes = j.nodes; node = j.node; area = j.area; gate = j.gate; body = frame_bytes (group_bytes group); group = group }

-- the node whose oldest staged facts, as this group, go to the disk: the host is asked to write its bytes behind the last gate
abbrev pub flushing : Grouped → Up → Up
flushing group u =
    record u {
      core = group_taken u.core;
      flush = flush.BodyOut (flush_of u.journal group);
      journal = record u.journal { busy = true; disk = called (noted u.journal.area (u.journal.gate + 1) (frame_bytes (group_bytes group)) u.journal.disk) };
    }

-- the oldest staged facts go to the disk, if there are any
abbrev pub Begins : Up → Up → Type 0
Begins u v = ((u.core.staged ≡ []) × (v ≡ u)) ⊎ ((group : Grouped) × (running_group (group_taken u.core) ≡ Some group) × (v ≡ flushing group u))

-- the same where no job runs; else nothing happens
abbrev pub FlushesBy : code.Flush → Up → Up → Type 0
FlushesBy flush.Resting u v = Begins u v
FlushesBy _ u v = v ≡ u

abbrev pub Flushes : Up → Up → Type 0
Flushes u v = FlushesBy u.flush u v
