-- When a node with its disk is in step with the world of the core's theorems.
use Rattle.std.specs.Prelude.{◌≡◌, ℕ, ◌+◌, ◌<◌, ◌≤◌, ◌^◌, Bool, true, false, List, [], ◌∷◌, ◌++◌, length, take, All, None, Some}
use Rattle.rr_types.specs.declared.fact.Fact.{Fact}
use Rattle.rr_types.specs.Groups.{Grouped}
use Rattle.rr_types.specs.Promises.{promise_of}
use Rattle.rr_model.specs.Lawful.{Heard}
use Rattle.rr_model.specs.World.{World, nothing_heard}
use Rattle.rr_model.specs.NodeState.{NodeState}
use Rattle.rr_model.specs.NodeStep.{running_group}
use Rattle.rr_model.specs.NodeReached.{IsReached}
use Rattle.rr_model.specs.NodeInWorld.{IsInWorld}
use Rattle.rr_disk.specs.Areas.{Extent, Areas}
use Rattle.rr_disk.specs.Crash.{Images, IsCrashImage, restarted}
use Rattle.rr_frame.specs.GroupFormat.{group_bytes, IsLawfulGroup}
use Rattle.rr_frame.specs.Snapshots.{Snapped}
use Rattle.rr_frame.specs.SnapshotFormat.{snapshot_bytes, IsLawfulSnapshot}
use Rattle.rr_journal.specs.Flushes as gate
use Rattle.rr_journal.specs.Moments.{body_due, body_out, body_safe, gate_set}
use Rattle.rr_journal.specs.declared.journal.Journal.{Journal}
use Rattle.rr_journal.specs.Calls.{Call, Write, Sync, frame_bytes}
use Rattle.rr_journal.specs.Image.{Found}
use Rattle.rr_journal.specs.Held.{Holds}
use Rattle.rr_journal.specs.Journals.{IsOver}
use Rattle.rr_journal.specs.Openings as opening
use Rattle.rr_journal.specs.OtherAreas.{other_area}
use Rattle.rr_journal.specs.OpeningTable.{Rests}
use Rattle.rr_journal.specs.Rewrites.{area_anew, flush_anew, IsRewriting}
use Rattle.rr_journal.specs.declared.stage.Stage as slots
use Rattle.rr_journal.specs.Stages.{calls_from}
use Rattle.rr_journal.specs.Switches.{Switch}
use Rattle.rr_journal.specs.SwitchTable.{IsAtStage}
use Rattle.rr_node.specs.Seats.{Flush, Resting, Writing, Flushed, Switching, Journaled, Doing, Stopped, Faulted, Opening, Serving, Seat}

-- ---- flushes, by their device calls that are left

-- how far a flush is: its body is due, or written, or safe, or its gate is open
pub data Moment : Type 0 where
  BodyDue : Moment
  BodyOut : Moment
  BodySafe : Moment
  GateSet : Moment

-- the device calls that are left then
abbrev pub calls_at : gate.Flush → Moment → List Call
calls_at flush BodyDue = Write flush.area (flush.gate + 1) flush.body ∷ Sync ∷ Write flush.area flush.gate (165 ∷ []) ∷ Sync ∷ []
calls_at flush BodyOut = Sync ∷ Write flush.area flush.gate (165 ∷ []) ∷ Sync ∷ []
calls_at flush BodySafe = Write flush.area flush.gate (165 ∷ []) ∷ Sync ∷ []
calls_at flush GateSet = Sync ∷ []

-- what stands on the disk then
abbrev pub areas_at : Moment → gate.Flush → Images → Areas
areas_at BodyDue = body_due
areas_at BodyOut = body_out
areas_at BodySafe = body_safe
areas_at GateSet = gate_set

-- the flush of a group by node p of n behind the last gate of its journal
abbrev pub flush_of : ℕ → ℕ → Journaled → Grouped → gate.Flush
flush_of n p journal group = record { nodes = n; node = p; area = journal.area; gate = journal.gate; body = frame_bytes (group_bytes group); group = group }

-- ---- disks

-- an area in order: its bytes are bytes, its safe length is there, and it has at most 4,294,967,295 of them
pub record IsInOrder (extent : Extent) : Type 0 where
  pub bytes : All (λ cell. cell.byte < 256) extent.cells
  pub safe : extent.safe ≤ length extent.cells
  pub small : length extent.cells < 2 ^ 32

-- both areas are in order
abbrev pub AreInOrder : Areas → Type 0
AreInOrder both = IsInOrder both.first × IsInOrder both.second

-- images hold the kept facts, and the first so many of the staged ones
pub record HoldsSome (n p : ℕ) (kept staged : List Fact) (images : Images) : Type 0 where
  pub count : ℕ
  pub there : count ≤ length staged
  pub holds : Holds n p images (kept ++ take count staged)

-- whatever a crash may leave holds the kept facts, and some of the staged ones
abbrev pub EachHoldsSome : ℕ → ℕ → World → Areas → Type 0
EachHoldsSome n p w both = (images : Images) → IsCrashImage both images → HoldsSome n p (w.kept p) (w.staged p) images

-- ---- a node that is down, or opens

-- the world has node p down
pub record IsDown (p : ℕ) (w : World) : Type 0 where
  pub down : w.is_up p ≡ false
  pub heard : w.heard p ≡ nothing_heard

-- an area is written anew because of what was found, with these calls left, on a disk that holds these facts
pub record WritesAnew (n p : ℕ) (facts : List Fact) (both : Areas) (found : Found) (calls : List Call) : Type 0 where
  pub stage : slots.Stage
  pub calls_left : calls ≡ calls_from (area_anew found) (flush_anew n p found).body stage
  pub rewrites : IsRewriting n p (record { found = found; body = (flush_anew n p found).body; stage = stage }) both
  pub holds : Holds n p rewrites.start facts

-- behind its first sync an opening is of a disk that holds these facts
abbrev pub OpensOver : ℕ → ℕ → List Fact → Areas → opening.Phase → Type 0
OpensOver n p facts both opening.Settling = ⊥
OpensOver n p facts both opening.ReadingFirst = Rests n p facts both
OpensOver n p facts both (opening.ReadingSecond first) = (rests : Rests n p facts both) × (first ≡ rests.start.of_first)
OpensOver n p facts both (opening.Rewriting found calls) = WritesAnew n p facts both found calls

-- before its sync an opening knows no more than a node that is down; from then on it is settled which staged facts are left
pub record OpensSome (n p : ℕ) (w : World) (both : Areas) (phase : opening.Phase) : Type 0 where
  pub count : ℕ
  pub there : count ≤ length (w.staged p)
  pub opens : OpensOver n p (w.kept p ++ take count (w.staged p)) both phase

-- an opening of node p
abbrev pub IsOpening : ℕ → ℕ → World → Areas → opening.Phase → Type 0
IsOpening n p w both opening.Settling = IsDown p w × EachHoldsSome n p w both
IsOpening n p w both opening.ReadingFirst = IsDown p w × OpensSome n p w both opening.ReadingFirst
IsOpening n p w both (opening.ReadingSecond first) = IsDown p w × OpensSome n p w both (opening.ReadingSecond first)
IsOpening n p w both (opening.Rewriting found calls) = IsDown p w × OpensSome n p w both (opening.Rewriting found calls)

-- ---- a node that is up

-- whether the group that runs is kept already: the last device call of its flush was made, and it isn't marked yet
abbrev pub is_settled : Flush → Bool
is_settled Resting = false
is_settled (Writing calls) = false
is_settled Flushed = true
is_settled (Switching calls) = false

-- a journal of so many facts that appends there
abbrev pub journal_at : ℕ → ℕ → Journaled → ℕ → Journal (Unit {0})
journal_at n p journal next =
    record {
      disk = tt;
      nodes = n;
      node = p;
      area = journal.area;
      epoch = journal.epoch;
      gate = journal.gate;
      next = next;
      failed = false;
      busy = false;
      closes_other = true;
    }

-- a flush of the running group at one of its moments, over a disk at rest
pub record IsFlushing (n p : ℕ) (s : NodeState) (journal : Journaled) (start : Images) (both : Areas) (calls : List Call) : Type 0 where
  pub group : Grouped
  pub moment : Moment
  pub runs : running_group s ≡ Some group
  pub lawful : IsLawfulGroup group
  pub small : journal.gate + 6 + length (group_bytes group) < 2 ^ 32
  pub calls_left : calls ≡ calls_at (flush_of n p journal group) moment
  pub stands : both ≡ areas_at moment (flush_of n p journal group) start

-- the snapshot of these facts with the next epoch
abbrev pub snapshot_over : ℕ → ℕ → Journaled → List Fact → Snapped
snapshot_over n p journal kept = record { node = p; nodes = n; epoch = journal.epoch + 1; next = length kept; entries = promise_of kept }

-- the switch to it in the other area, at one of its stages
abbrev pub switch_at : ℕ → ℕ → Journaled → List Fact → slots.Stage → Switch
switch_at n p journal kept stage =
    record {
      nodes = n;
      node = p;
      area = other_area journal.area;
      epoch = journal.epoch + 1;
      next = length kept;
      body = frame_bytes (snapshot_bytes (snapshot_over n p journal kept));
      stage = stage;
    }

-- a switch to the snapshot of the kept facts at one of its stages; no group runs
pub record IsSwitchingTo (n p : ℕ) (s : NodeState) (journal : Journaled) (kept : List Fact) (start : Images) (both : Areas) (calls : List Call) : Type 0 where
  pub stage : slots.Stage
  pub rests : s.running ≡ None
  pub spelt : IsLawfulSnapshot (snapshot_over n p journal kept)
  pub small : 6 + length (snapshot_bytes (snapshot_over n p journal kept)) < 2 ^ 32
  pub calls_left : calls ≡ calls_from (other_area journal.area) (frame_bytes (snapshot_bytes (snapshot_over n p journal kept))) stage
  pub stands : IsAtStage stage (switch_at n p journal kept stage) start kept both

-- what stands on the disk of a node that is up and keeps these facts, by its flush
abbrev pub FlushesSo : ℕ → ℕ → NodeState → Journaled → List Fact → Images → Areas → Flush → Type 0
FlushesSo n p s journal kept start both Resting = (s.running ≡ None) × (both ≡ restarted start)
FlushesSo n p s journal kept start both (Writing calls) = IsFlushing n p s journal start both calls
FlushesSo n p s journal kept start both Flushed = (group : List Fact) × (s.running ≡ Some group) × (both ≡ restarted start)
FlushesSo n p s journal kept start both (Switching calls) = IsSwitchingTo n p s journal kept start both calls

-- a node that is up: by its facts and what it heard it has come to its state, the world has it so, and its journal
-- appends behind images that hold its kept facts
pub record IsServing (n p : ℕ) (w : World) (both : Areas) (s : NodeState) (journal : Journaled) (flush : Flush) : Type 0 where
  pub facts : List Fact
  pub heard : Heard
  pub reached : IsReached n p facts heard s
  pub in_world : IsInWorld (is_settled flush) n p facts heard s w
  pub start : Images
  pub over : IsOver (journal_at n p journal (length (w.kept p))) start (w.kept p)
  pub flushes : FlushesSo n p s journal (w.kept p) start both flush

-- ---- a node

-- what a node does is what the world has of it
abbrev pub DoesSo : ℕ → ℕ → World → Areas → Doing → Type 0
DoesSo n p w both Stopped = IsDown p w × EachHoldsSome n p w both
DoesSo n p w both Faulted = IsDown p w × EachHoldsSome n p w both
DoesSo n p w both (Opening phase) = IsOpening n p w both phase
DoesSo n p w both (Serving s journal flush) = IsServing n p w both s journal flush

-- node p of n with its disk is in step with the world
pub record InStep (n p : ℕ) (seat : Seat) (w : World) : Type 0 where
  pub exists : p < n
  pub nodes : seat.nodes ≡ n
  pub node : seat.node ≡ p
  pub in_order : AreInOrder seat.areas
  pub doing : DoesSo n p w seat.areas seat.doing
