-- A cluster of nodes with their disks, and what each event of a schedule does to it.
use Rattle.std.specs.Prelude.{◌≡◌, ◌⊎◌, ℕ, ◌+◌, Bool, true, false, nat_lt, if◌then◌else◌, List, [], ◌∷◌, ◌++◌, length, map, slice_get, slice_set, Option, None, Some, Result, Ok, Err}
use Rattle.std.specs.Option.{option_map_or}
use Rattle.std.specs.List.{range_with_len}
use Rattle.rr_types.specs.declared.message.Message.{Message}
use Rattle.rr_types.specs.declared.refusal.Refusal.{Refusal}
use Rattle.rr_types.specs.declared.refusal.Refusal.TheVariants as because
use Rattle.rr_types.specs.Registry.{Bindings, binding_of}
use Rattle.rr_model.specs.Sound.{IsDecidedList}
use Rattle.rr_types.specs.declared.event.NodeEvent.{NodeEvent}
use Rattle.rr_types.specs.declared.event.NodeEvent.TheVariants.{Told}
use Rattle.rr_types.specs.Inputs.{HearsNothing, happens_as, message_on}
use Rattle.rr_node.specs.declared.event.Outcome.{Outcome}
use Rattle.rr_node.specs.declared.event.Outcome.TheVariants.{Quiet, Left, Replied, Opened}
use Rattle.rr_node.specs.Runs.{sent_by, IsSpelt}
use Rattle.rr_node.specs.Seats.{Seat, new_seat, Answer, seat_step, starve, seat_fails, starve_fails, crashed}
use Rattle.rr_text.specs.declared.event.Event.{Event}
use Rattle.rr_text.specs.declared.event.Happening.{Happening}
use Rattle.rr_text.specs.declared.event.Happening.TheVariants.{At, Fail, Crash}
use Rattle.rr_types.specs.declared.binding.Binding.{Binding}
use Rattle.rr_text.specs.declared.report.ReportLine.{ReportLine}
use Rattle.rr_text.specs.declared.report.ReportLine.TheVariants as line
use Rattle.rr_text.specs.Reported.{Reported}

-- the nodes with their disks, by their numbers; all messages ever sent; the report so far
pub record Cluster : Type 0 where
  pub seats : List Seat
  pub wire : List Message
  pub lines : List ReportLine

-- n nodes, all down, over empty disks
abbrev pub new_cluster : ℕ → Cluster
new_cluster n = record { seats = map (new_seat n) (range_with_len 0 n); wire = []; lines = [] }

-- the bound names of a registry, as a report shows them
abbrev pub shown : Bindings → List Binding
shown bindings = map binding_of bindings

-- what a report says of an answer of node p to the event of a line, where so many messages were sent before
abbrev pub note_of : ℕ → ℕ → ℕ → Result Outcome Refusal → List ReportLine
note_of p at sent (Ok Quiet) = []
note_of p at sent (Ok (Left m)) = line.Send sent m ∷ []
note_of p at sent (Ok (Replied q reply)) = line.Ack p q reply ∷ []
note_of p at sent (Ok (Opened facts decided bindings)) = line.Restart p facts decided (shown bindings) ∷ []
note_of p at sent (Err e) = line.Refuse at e ∷ []

-- the cluster after an answer of node p to the event of a line
abbrev pub with_answer : ℕ → ℕ → Cluster → Answer → Cluster
with_answer p at c answer = record {
  seats = slice_set c.seats p answer.1;
  wire = c.wire ++ sent_by answer.0;
  lines = c.lines ++ note_of p at (length c.wire) answer.0;
}

-- an event at node p; starved says that memory was wanting for it
abbrev pub at_node : ℕ → ℕ → Bool → NodeEvent Message → Cluster → Cluster
at_node p at starved event c = option_map_or (λ seat. with_answer p at c (if starved then starve event seat else seat_step event seat)) (slice_get c.seats p) c

-- the next device call of node p, failing
abbrev pub fail_at : ℕ → ℕ → Bool → List ℕ → Cluster → Cluster
fail_at p at starved fill c =
    option_map_or (λ seat. with_answer p at c (if starved then starve_fails fill seat else seat_fails fill seat))
    (slice_get c.seats p) c

-- a crash of node p
abbrev pub crash_at : ℕ → ℕ → ℕ → List ℕ → Cluster → Cluster
crash_at p cut_first cut_second fill c =
    option_map_or (λ seat. record c { seats = slice_set c.seats p (crashed cut_first cut_second fill seat) })
    (slice_get c.seats p) c

-- a cluster with the line that refuses the event of a line, if it was refused
abbrev pub with_refusal : ℕ → Option Refusal → Cluster → Cluster
with_refusal at None c = c
with_refusal at (Some e) c = record c { lines = c.lines ++ line.Refuse at e ∷ [] }

-- what happens at node p on this line does this to a cluster; a message that isn't on the wire or is for another node does nothing
abbrev pub happens : ℕ → ℕ → Bool → Happening → Cluster → Cluster
happens p at starved (At event) c = option_map_or (λ e. at_node p at starved e c) (happens_as (message_on c.wire p) event) c
happens p at starved (Fail fill) c = fail_at p at starved fill c
happens p at starved (Crash a b fill) c = crash_at p a b fill c

-- what the event of a line does to a cluster
abbrev pub event_step : ℕ → Bool → Event → Cluster → Cluster
event_step at starved e c = happens e.node at starved e.what c

-- it is no message that is heard
abbrev pub IsUnheard : NodeEvent ℕ → Type 0
IsUnheard (Told input) = HearsNothing input
IsUnheard event = Unit {0}

-- the fact holds where memory was there, or where it was wanting
abbrev pub IsEither : (Bool → Type 0) → Type 0
IsEither Holds = Holds false ⊎ Holds true

-- the cluster after an event of a line: what the event does, or what it does where memory was wanting for it
abbrev pub Steps : ℕ → Event → Cluster → Cluster → Type 0
Steps at event old new = IsEither (λ starved. new ≡ event_step at starved event old)

-- the events, of which the first stands on this line, lead from one cluster to another
abbrev pub Leads : ℕ → List Event → Cluster → Cluster → Type 0
Leads at [] old new = new ≡ old
Leads at (e ∷ es) old new = (next : Cluster) × Steps at e old next × Leads (at + 1) es next new

-- the group that node p is flushing, or the snapshot to which it switches, has a spelling
abbrev pub IsSpeltAt : ℕ → Cluster → Type 0
IsSpeltAt p c = (seat : Seat) → slice_get c.seats p ≡ Some seat → IsSpelt seat.doing

-- that holds of an event's node behind it, or nothing has changed
abbrev pub IsSpeltBehind : Event → Cluster → Cluster → Type 0
IsSpeltBehind event old new = (new ≡ old) ⊎ IsSpeltAt event.node new

-- the events lead from one cluster to another, and that holds behind each
abbrev pub LeadsSpelt : ℕ → List Event → Cluster → Cluster → Type 0
LeadsSpelt at [] old new = new ≡ old
LeadsSpelt at (e ∷ es) old new = (next : Cluster) × Steps at e old next × IsSpeltBehind e old next × LeadsSpelt (at + 1) es next new

-- the cluster after events, of which the first stands on this line, where memory is there for each
abbrev pub after_events : ℕ → List Event → Cluster → Cluster
after_events at [] c = c
after_events at (e ∷ es) c = after_events (at + 1) es (event_step at false e c)

-- the line of this number, from 0, refuses an event for want of memory or by the device
abbrev pub TellsOfWant : List ReportLine → ℕ → Type 0
TellsOfWant lines k = (at : ℕ) × ((slice_get lines k ≡ Some (line.Refuse at because.OutOfMemory)) ⊎ (slice_get lines k ≡ Some (line.Refuse at because.Device)))

-- no line of the report does
abbrev pub IsClean : Reported → Type 0
IsClean report = (k : ℕ) → TellsOfWant report.lines k → ⊥

-- a clean report is that of the one run in which memory was there for each event: its lines are a function of the schedule
abbrev pub IsOnlyOneIfClean : ℕ → List Event → Reported → Type 0
IsOnlyOneIfClean n events report = IsClean report →
    (report.lines ≡ (after_events 2 events (new_cluster n)).lines) × IsDecidedList n (after_events 2 events (new_cluster n)).wire report.decided

-- the line of the first of these events whose node isn't there among n nodes
abbrev pub first_fault : ℕ → ℕ → List Event → Option ℕ
first_fault n at [] = None
first_fault n at (e ∷ es) = if nat_lt e.node n then first_fault n (at + 1) es else Some at
