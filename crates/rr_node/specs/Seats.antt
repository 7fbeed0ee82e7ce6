-- A node with its disk, from its first restart on: what each event does to it.
use Rattle.std.specs.Prelude.{◌≡◌, ◌⊎◌, ℕ, ◌+◌, ◌-◌, ◌^◌, Bool, false, ◌&&◌, ◌==◌, nat_lt, if◌then◌else◌, List, [], ◌∷◌, length, unwrap_or, Result, Ok, Err}
use Rattle.std.specs.Option.{option_map_or}
use Rattle.rr_types.specs.declared.refusal.Refusal.{Refusal}
use Rattle.rr_types.specs.declared.refusal.Refusal.TheVariants as because
use Rattle.rr_types.specs.Registry.{registry_of, reply_of}
use Rattle.rr_model.specs.NodeState.{NodeState, decided_prefix}
use Rattle.rr_types.specs.declared.input.Input.{Input}
use Rattle.rr_types.specs.declared.message.Message.{Message}
use Rattle.rr_model.specs.NodeStep.{node_step, input_refusal, refusal_of, group_taken, marked_running, running_group, next_leaving, message_left, next_acknowledged, acknowledged, started}
use Rattle.rr_disk.specs.declared.area.Area.{Area}
use Rattle.rr_disk.specs.Areas.{Areas, extent_of, read_of, at_rest, synced}
use Rattle.rr_types.specs.Counts.{counted}
use Rattle.rr_disk.specs.Crash.{crash_images, restarted}
use Rattle.rr_frame.specs.GroupFormat.{group_bytes}
use Rattle.rr_frame.specs.Snapshots.{Snapped}
use Rattle.rr_frame.specs.SnapshotFormat.{snapshot_bytes}
use Rattle.rr_journal.specs.Image.{Content}
use Rattle.rr_types.specs.declared.event.NodeEvent.{NodeEvent}
use Rattle.rr_types.specs.declared.event.NodeEvent.TheVariants as at
use Rattle.rr_node.specs.declared.event.Outcome.{Outcome}
use Rattle.rr_node.specs.declared.event.Outcome.TheVariants.{Quiet, Left, Replied, Opened}
use Rattle.rr_journal.specs.Calls.{Call, Read, Write, Sync, after_call, after_starved, after_failing, append_calls}
use Rattle.rr_journal.specs.OtherAreas.{other_area, closes_in}
use Rattle.rr_journal.specs.Switches.{switch_calls}
use Rattle.rr_journal.specs.Openings.{Phase, Settling, After, Goes, Opens, Stops, due_call, after_opening_call}

-- a job: none, the device calls that are left of a flush, a synced group that isn't marked yet, or the calls that are left of
-- a switch
pub data Flush : Type 0 where
  Resting : Flush
  Writing : List Call → Flush
  Flushed : Flush
  Switching : List Call → Flush

-- where the journal of an open disk appends: the active area, its last gate, its epoch
pub record Journaled : Type 0 where
  pub area : Area
  pub gate : ℕ
  pub epoch : ℕ

-- what a node does
pub data Doing : Type 0 where
  Stopped : Doing
  Faulted : Doing
  Opening : Phase → Doing
  Serving : NodeState → Journaled → Flush → Doing

-- a node and its disk: how many nodes there are, which it is, what it does, what its areas hold, and how many device calls
-- were made
pub record Seat : Type 0 where
  pub nodes : ℕ
  pub node : ℕ
  pub doing : Doing
  pub areas : Areas
  pub calls : ℕ

-- node p of n, which was never started, over an empty disk
abbrev pub new_seat : ℕ → ℕ → Seat
new_seat n p =
    record { nodes = n; node = p; doing = Stopped; areas = record { first = at_rest []; second = at_rest [] }; calls = 0 }

-- the seat after one more device call, which left the areas so
abbrev pub called : Areas → Seat → Seat
called both seat = record seat { areas = both; calls = counted seat.calls }

-- at most one device call was made
abbrev pub AtMostOneCall : Seat → Seat → Type 0
AtMostOneCall old new = (new.calls ≡ old.calls) ⊎ (new.calls ≡ counted old.calls)

-- what an event answers, and the node after it
abbrev pub Answer : Type 0
Answer = Result Outcome Refusal × Seat

-- nothing changes
abbrev pub refuse : Refusal → Seat → Answer
refuse e seat = (Err e, seat)

-- the node goes on doing this
abbrev pub goes_on : Outcome → Doing → Seat → Answer
goes_on outcome doing seat = (Ok outcome, record seat { doing = doing })

-- the opening ends: the node serves with the promise and the number of the content of the active area
abbrev pub serves : Area → Content → Seat → Answer
serves area c seat =
    let s = started seat.nodes seat.node c.promise c.next in
    goes_on (Opened c.next (length (decided_prefix s)) (registry_of (decided_prefix s)))
    (Serving s (record { area = area; gate = c.gate; epoch = c.epoch }) Resting) seat

-- the bytes that a device call reads
abbrev pub read_by : Call → Areas → List ℕ
read_by (Read area) both = read_of 0 (2 ^ 64 - 1) (extent_of both area)
read_by (Write area at bytes) both = []
read_by Sync both = []

-- the opening goes on, ends, or stops
abbrev pub opens_on : Seat → After → Answer
opens_on seat (Goes phase) = goes_on Quiet (Opening phase) seat
opens_on seat (Opens area c) = serves area c seat
opens_on seat (Stops e) = (Err e, record seat { doing = Stopped })

-- the next device call of an opening
abbrev pub open_on : Seat → Phase → Answer
open_on seat phase =
    opens_on (called (after_call (due_call phase) seat.areas) seat)
    (after_opening_call seat.nodes seat.node (read_by (due_call phase) seat.areas) phase)

-- where the journal appends once the running group is on the disk
abbrev pub journal_behind : NodeState → Journaled → Journaled
journal_behind s journal =
    record journal { gate = journal.gate + 5 + option_map_or (λ g. length (group_bytes g)) (running_group s) 0 }

-- the snapshot of the marked facts with the next epoch
abbrev pub snapshot_of : NodeState → Journaled → Snapped
snapshot_of s journal =
    record { node = s.node; nodes = s.nodes; epoch = journal.epoch + 1; next = s.marked_end; entries = s.marked }

-- where the journal appends once the other area is active: behind that snapshot
abbrev pub journal_switched : NodeState → Journaled → Journaled
journal_switched s journal =
    record {
      area = other_area journal.area;
      gate = 5 + length (snapshot_bytes (snapshot_of s journal));
      epoch = journal.epoch + 1;
    }

-- the next device call of a job
abbrev pub flush_on : NodeState → Journaled → Seat → Flush → Answer
flush_on s journal seat Resting = (Ok Quiet, seat)
flush_on s journal seat Flushed = (Ok Quiet, seat)
flush_on s journal seat (Writing []) = (Ok Quiet, seat)
flush_on s journal seat (Writing (call ∷ [])) =
    goes_on Quiet (Serving s (journal_behind s journal) Flushed) (called (after_call call seat.areas) seat)
flush_on s journal seat (Writing (call ∷ next ∷ calls)) =
    goes_on Quiet (Serving s journal (Writing (next ∷ calls))) (called (after_call call seat.areas) seat)
flush_on s journal seat (Switching []) = (Ok Quiet, seat)
flush_on s journal seat (Switching (call ∷ [])) =
    goes_on Quiet (Serving s (journal_switched s journal) Resting) (called (after_call call seat.areas) seat)
flush_on s journal seat (Switching (call ∷ next ∷ calls)) =
    goes_on Quiet (Serving s journal (Switching (next ∷ calls))) (called (after_call call seat.areas) seat)

-- an input to a serving node
abbrev pub told : Input Message → NodeState → Journaled → Flush → Seat → Answer
told input s journal flush seat =
    option_map_or (λ e. refuse e seat) (refusal_of input s) (goes_on Quiet (Serving (node_step input s) journal flush) seat)

-- the group that a flush would write
abbrev pub payload_of : NodeState → List ℕ
payload_of s = option_map_or group_bytes (running_group (group_taken s)) []

-- a flush begins, unless one runs or the area would pass 4,294,967,295 bytes; without staged facts nothing happens
abbrev pub take_up : NodeState → Journaled → Flush → Seat → Answer
take_up s journal Resting seat =
    if length s.staged == 0 then (Ok Quiet, seat)
    else (if nat_lt (journal.gate + 6 + length (payload_of s)) (2 ^ 32)
    then goes_on Quiet (Serving (group_taken s) journal (Writing (append_calls journal.area journal.gate (payload_of s)))) seat
    else refuse because.TooLarge seat)
take_up s journal (Writing calls) seat = refuse because.Busy seat
take_up s journal Flushed seat = refuse because.Busy seat
take_up s journal (Switching calls) seat = refuse because.Busy seat

-- whether the snapshot has a next epoch below 2^64, and ends below byte 4,294,967,296 of its area
abbrev pub may_snap : NodeState → Journaled → Bool
may_snap s journal = nat_lt (journal.epoch + 1) (2 ^ 64) && nat_lt (6 + length (snapshot_bytes (snapshot_of s journal))) (2 ^ 32)

-- a switch to a snapshot of the marked facts in the other area begins, unless a job runs or that would be too large
abbrev pub snap_up : NodeState → Journaled → Flush → Seat → Answer
snap_up s journal Resting seat =
    if may_snap s journal
    then goes_on Quiet
    (Serving s journal (Switching (switch_calls (other_area journal.area)
    (closes_in seat.areas (other_area journal.area)) (snapshot_bytes (snapshot_of s journal)))))
    seat
    else refuse because.TooLarge seat
snap_up s journal (Writing calls) seat = refuse because.Busy seat
snap_up s journal Flushed seat = refuse because.Busy seat
snap_up s journal (Switching calls) seat = refuse because.Busy seat

-- the synced group is marked
abbrev pub mark_up : NodeState → Journaled → Flush → Seat → Answer
mark_up s journal Resting seat = (Ok Quiet, seat)
mark_up s journal (Writing calls) seat = (Ok Quiet, seat)
mark_up s journal (Switching calls) seat = (Ok Quiet, seat)
mark_up s journal Flushed seat = goes_on Quiet (Serving (marked_running s) journal Resting) seat

-- the oldest message that may leave goes
abbrev pub send_off : NodeState → Journaled → Flush → Seat → Answer
send_off s journal flush seat =
    option_map_or (λ m. goes_on (Left m) (Serving (message_left s) journal flush) seat) (next_leaving s) (Ok Quiet, seat)

-- the oldest decided request that waits is acknowledged
abbrev pub reply_off : NodeState → Journaled → Flush → Seat → Answer
reply_off s journal flush seat =
    option_map_or
    (λ q. option_map_or (λ reply. goes_on (Replied q reply) (Serving (acknowledged s) journal flush) seat)
    (reply_of (decided_prefix s) q) (Ok Quiet, seat))
    (next_acknowledged s) (Ok Quiet, seat)

-- an event at a serving node
abbrev pub serve : NodeState → Journaled → Flush → Seat → NodeEvent Message → Answer
serve s journal flush seat (at.Told input) = told input s journal flush seat
serve s journal flush seat at.Take = take_up s journal flush seat
serve s journal flush seat at.Device = flush_on s journal seat flush
serve s journal flush seat at.Mark = mark_up s journal flush seat
serve s journal flush seat at.Send = send_off s journal flush seat
serve s journal flush seat at.Acknowledge = reply_off s journal flush seat
serve s journal flush seat at.Snap = snap_up s journal flush seat
serve s journal flush seat at.Restart = refuse because.Busy seat

-- an event at a node that is down, opening or failed
abbrev pub wait : NodeEvent Message → Seat → Refusal → Answer
wait at.Restart seat e = goes_on Quiet (Opening Settling) seat
wait (at.Told input) seat e = refuse e seat
wait at.Take seat e = refuse e seat
wait at.Device seat e = refuse e seat
wait at.Mark seat e = refuse e seat
wait at.Send seat e = refuse e seat
wait at.Acknowledge seat e = refuse e seat
wait at.Snap seat e = refuse e seat

-- a node that opens makes its device calls and refuses the rest
abbrev pub await_opening : Phase → Seat → NodeEvent Message → Answer
await_opening phase seat at.Device = open_on seat phase
await_opening phase seat at.Restart = refuse because.Busy seat
await_opening phase seat (at.Told input) = refuse because.Down seat
await_opening phase seat at.Take = refuse because.Down seat
await_opening phase seat at.Mark = refuse because.Down seat
await_opening phase seat at.Send = refuse because.Down seat
await_opening phase seat at.Acknowledge = refuse because.Down seat
await_opening phase seat at.Snap = refuse because.Down seat

-- an event at a node, by what the node does
abbrev pub by_doing : NodeEvent Message → Seat → Doing → Answer
by_doing event seat Stopped = wait event seat because.Down
by_doing event seat Faulted = wait event seat because.Failed
by_doing event seat (Opening phase) = await_opening phase seat event
by_doing event seat (Serving s journal flush) = serve s journal flush seat event

-- after a crash the areas hold what the cuts and the fill leave, and the node is down
abbrev pub crashed : ℕ → ℕ → List ℕ → Seat → Seat
crashed cut_first cut_second fill seat =
    record seat { doing = Stopped; areas = restarted (crash_images cut_first cut_second fill seat.areas) }

-- what an event answers, and the node after it, where memory is there
abbrev pub seat_step : NodeEvent Message → Seat → Answer
seat_step event seat = by_doing event seat seat.doing

-- a device call that fails and leaves the areas so: the node has failed
abbrev pub fall : (Call → Areas → Areas) → Call → Seat → Answer
fall leaves call seat = (Err because.Device, record (called (leaves call seat.areas) seat) { doing = Faulted })

-- whether a device call makes its area longer; writes that do take memory, and no other write or sync does
abbrev pub grows : Call → Areas → Bool
grows (Read area) both = false
grows (Write area at bytes) both = nat_lt (length (extent_of both area).cells) (at + length bytes)
grows Sync both = false

-- a write or a sync where memory is wanting: a write that makes its area longer fails
abbrev pub starve_call : Call → Seat → Answer
starve_call call seat = if grows call seat.areas then fall after_starved call seat else seat_step at.Device seat

-- the next device call of a job where memory is wanting
abbrev pub starve_flush : Flush → Seat → Answer
starve_flush Resting seat = seat_step at.Device seat
starve_flush Flushed seat = seat_step at.Device seat
starve_flush (Writing []) seat = seat_step at.Device seat
starve_flush (Writing (call ∷ calls)) seat = starve_call call seat
starve_flush (Switching []) seat = seat_step at.Device seat
starve_flush (Switching (call ∷ calls)) seat = starve_call call seat

-- what comes behind a sync of an opening where memory is wanting: no core is made where the opening would end
abbrev pub starve_end : Seat → After → Answer
starve_end seat (Goes phase) = opens_on seat (Goes phase)
starve_end seat (Opens area c) = opens_on seat (Stops because.OutOfMemory)
starve_end seat (Stops e) = opens_on seat (Stops e)

-- the next device call of an opening where memory is wanting: nothing is read, or a write fails, or no core is made
abbrev pub starve_opening : Phase → Call → Seat → Answer
starve_opening phase (Read area) seat = opens_on (called seat.areas seat) (Stops because.OutOfMemory)
starve_opening phase (Write area at bytes) seat = starve_call (Write area at bytes) seat
starve_opening phase Sync seat = starve_end (called (synced seat.areas) seat) (after_opening_call seat.nodes seat.node [] phase)

-- an event at a node that opens, where memory is wanting: only device calls take it
abbrev pub starve_awaiting : Phase → NodeEvent Message → Seat → Answer
starve_awaiting phase at.Device seat = starve_opening phase (due_call phase) seat
starve_awaiting phase (at.Told input) seat = seat_step (at.Told input) seat
starve_awaiting phase at.Take seat = seat_step at.Take seat
starve_awaiting phase at.Mark seat = seat_step at.Mark seat
starve_awaiting phase at.Send seat = seat_step at.Send seat
starve_awaiting phase at.Acknowledge seat = seat_step at.Acknowledge seat
starve_awaiting phase at.Snap seat = seat_step at.Snap seat
starve_awaiting phase at.Restart seat = seat_step at.Restart seat

-- where no job runs the beginning of one is refused
abbrev pub starve_beginning : Flush → NodeEvent Message → Seat → Answer
starve_beginning Resting event seat = refuse because.OutOfMemory seat
starve_beginning (Writing calls) event seat = seat_step event seat
starve_beginning Flushed event seat = seat_step event seat
starve_beginning (Switching calls) event seat = seat_step event seat

-- where a group is synced its marking is refused
abbrev pub starve_marking : Flush → Seat → Answer
starve_marking Resting seat = seat_step at.Mark seat
starve_marking (Writing calls) seat = seat_step at.Mark seat
starve_marking Flushed seat = refuse because.OutOfMemory seat
starve_marking (Switching calls) seat = seat_step at.Mark seat

-- an input where memory is wanting: it is refused for that, unless it is refused for what it is
abbrev pub starve_input : Input Message → NodeState → Seat → Answer
starve_input input s seat = refuse (unwrap_or (input_refusal input s) because.OutOfMemory) seat

-- an event at a serving node where memory is wanting: inputs are refused; sending, acknowledging and a restart take none
abbrev pub starve_serving : NodeState → Flush → NodeEvent Message → Seat → Answer
starve_serving s flush (at.Told input) seat = starve_input input s seat
starve_serving s flush at.Take seat = starve_beginning flush at.Take seat
starve_serving s flush at.Device seat = starve_flush flush seat
starve_serving s flush at.Mark seat = starve_marking flush seat
starve_serving s flush at.Send seat = seat_step at.Send seat
starve_serving s flush at.Acknowledge seat = seat_step at.Acknowledge seat
starve_serving s flush at.Snap seat = starve_beginning flush at.Snap seat
starve_serving s flush at.Restart seat = seat_step at.Restart seat

-- an event where memory is wanting, by what the node does: one that is down or has failed takes none
abbrev pub starve_doing : Doing → NodeEvent Message → Seat → Answer
starve_doing Stopped event seat = seat_step event seat
starve_doing Faulted event seat = seat_step event seat
starve_doing (Opening phase) event seat = starve_awaiting phase event seat
starve_doing (Serving s journal flush) event seat = starve_serving s flush event seat

-- what an event answers, and the node after it, where memory is wanting for it
abbrev pub starve : NodeEvent Message → Seat → Answer
starve event seat = starve_doing seat.doing event seat

-- what a node may answer to an event, and be after it: what it answers where memory is there, or where it is wanting
abbrev pub Gives : NodeEvent Message → Seat → Result Outcome Refusal → Seat → Type 0
Gives event seat result next = ((result, next) ≡ seat_step event seat) ⊎ ((result, next) ≡ starve event seat)

-- the next device call of a job fails; where none is due nothing happens
abbrev pub fail_flush : (Call → Areas → Areas) → Flush → Seat → Answer
fail_flush leaves Resting seat = (Ok Quiet, seat)
fail_flush leaves Flushed seat = (Ok Quiet, seat)
fail_flush leaves (Writing []) seat = (Ok Quiet, seat)
fail_flush leaves (Writing (call ∷ calls)) seat = fall leaves call seat
fail_flush leaves (Switching []) seat = (Ok Quiet, seat)
fail_flush leaves (Switching (call ∷ calls)) seat = fall leaves call seat

-- the next device call of a node fails
abbrev pub fail_doing : (Call → Areas → Areas) → Doing → Seat → Answer
fail_doing leaves Stopped seat = refuse because.Down seat
fail_doing leaves Faulted seat = refuse because.Failed seat
fail_doing leaves (Opening phase) seat = fall leaves (due_call phase) seat
fail_doing leaves (Serving s journal flush) seat = fail_flush leaves flush seat

-- what a failing device call answers, and the node after it, where memory is there: a write leaves the fill
abbrev pub seat_fails : List ℕ → Seat → Answer
seat_fails fill seat = fail_doing (after_failing fill) seat.doing seat

-- both areas after a failing call where memory is wanting: a write that makes its area longer leaves its range loose
abbrev pub after_failing_starved : List ℕ → Call → Areas → Areas
after_failing_starved fill call both = if grows call both then after_starved call both else after_failing fill call both

-- what a failing device call answers, and the node after it, where memory is wanting
abbrev pub starve_fails : List ℕ → Seat → Answer
starve_fails fill seat = fail_doing (after_failing_starved fill) seat.doing seat

-- what a node may answer where its next device call fails with this fill, and be after it
abbrev pub Fails : List ℕ → Seat → Result Outcome Refusal → Seat → Type 0
Fails fill seat result next = ((result, next) ≡ seat_fails fill seat) ⊎ ((result, next) ≡ starve_fails fill seat)
