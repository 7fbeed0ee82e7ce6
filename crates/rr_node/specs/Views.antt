-- How the code's node stands for a seat, and what keeps its parts together.
use Rattle.std.specs.Prelude.{◌≡◌, ◌⊎◌, ℕ, ◌+◌, ◌<◌, true, false, length, List, [], ◌∷◌, Option, None, Some, Result, Ok, Err}
use Rattle.rr_types.specs.declared.refusal.Refusal.{Refusal}
use Rattle.rr_types.specs.declared.refusal.Refusal.TheVariants.{OutOfMemory, Device}
use Rattle.rr_model.specs.NodeState.{NodeState}
use Rattle.rr_model.specs.NodeStep.{running_group, started}
use Rattle.rr_disk.specs.Areas.{Areas}
use Rattle.rr_types.specs.Counts.{counted}
use Rattle.rr_disk.specs.Failing.{FailingState, FailingRead, FailingWrite, FailingSync}
use Rattle.rr_disk.specs.Memory.{MemoryState, MemoryRead, MemoryWrite, MemorySync}
use Rattle.rr_frame.specs.GroupFormat.{group_bytes, IsLawfulGroup}
use Rattle.rr_frame.specs.Snapshots.{IsSnapshot}
use Rattle.rr_frame.specs.SnapshotFormat.{snapshot_bytes, IsLawfulSnapshot}
use Rattle.rr_journal.specs.Flushes as gate
use Rattle.rr_journal.specs.declared.journal.Journal.{Journal}
use Rattle.rr_journal.specs.Calls.{Write, Sync, frame_bytes}
use Rattle.rr_journal.specs.OtherAreas.{other_area, closes_in, IsOtherKnown}
use Rattle.rr_journal.specs.declared.opening.End.{End}
use Rattle.rr_journal.specs.declared.opening.Progress.{Progress}
use Rattle.rr_journal.specs.declared.opening.Progress.TheVariants.{Done}
use Rattle.rr_journal.specs.Fronts.{KnowsOther}
use Rattle.rr_journal.specs.OpeningStates.{OpeningState}
use Rattle.rr_journal.specs.OpeningSteps as last
use Rattle.rr_journal.specs.OpeningSteps.{Steps}
use Rattle.rr_journal.specs.OpeningTable.{OpensAny, ComesToAny}
use Rattle.rr_journal.specs.StepsInPlace.{journal_of, opened_of}
use Rattle.rr_journal.specs.Phases.{phase_of}
use Rattle.rr_journal.specs.declared.stage.Stage.TheVariants as stage
use Rattle.rr_journal.specs.Stages.{calls_from}
use Rattle.rr_journal.specs.Switches.{Switch}
use Rattle.rr_node.specs.declared.doing.Doing as code
use Rattle.rr_node.specs.declared.doing.Doing.TheVariants as does
use Rattle.rr_node.specs.declared.serving.Serving.{Serving}
use Rattle.rr_node.specs.declared.serving.Flush as code_2
use Rattle.rr_node.specs.declared.serving.Flush.TheVariants as flush
use Rattle.rr_types.specs.declared.event.NodeEvent.{NodeEvent}
use Rattle.rr_types.specs.declared.message.Message.{Message}
use Rattle.rr_types.specs.declared.event.NodeEvent.TheVariants as at
use Rattle.rr_node.specs.declared.event.Outcome.{Outcome}
use Rattle.rr_node.specs.declared.event.Outcome.TheVariants.{Quiet}
use Rattle.rr_node.specs.Seats as seats
use Rattle.rr_node.specs.Seats.{Seat, Journaled, Answer, Gives, Fails, serves}

-- a node's disk: in memory, with calls that fail on demand
abbrev pub NodeDisk : Type 0
NodeDisk = FailingState MemoryState

-- the areas of a node's disk
abbrev pub areas_in : NodeDisk → Areas
areas_in disk = disk.below.areas

-- where a journal appends
abbrev pub journaled_of : Journal NodeDisk → Journaled
journaled_of j = record { area = j.area; gate = j.gate; epoch = j.epoch }

-- a job, by the device calls that are left of it
abbrev pub flush_of : code_2.Flush → seats.Flush
flush_of flush.Resting = seats.Resting
flush_of (flush.Body job) = seats.Writing (Write job.area (job.gate + 1) job.body ∷ Sync ∷ Write job.area job.gate (165 ∷ []) ∷ Sync ∷ [])
flush_of (flush.BodyOut job) = seats.Writing (Sync ∷ Write job.area job.gate (165 ∷ []) ∷ Sync ∷ [])
flush_of (flush.BodySafe job) = seats.Writing (Write job.area job.gate (165 ∷ []) ∷ Sync ∷ [])
flush_of (flush.GateSet job) = seats.Writing (Sync ∷ [])
flush_of (flush.Flushed synced) = seats.Flushed
flush_of (flush.Switching job) = seats.Switching (calls_from job.area job.body job.stage)

-- what a node does
abbrev pub doing_of : code.Doing → seats.Doing
doing_of (does.Stopped disk) = seats.Stopped
doing_of (does.Faulted disk) = seats.Faulted
doing_of (does.Opening opening) = seats.Opening (phase_of opening.phase)
doing_of (does.Serving s) = seats.Serving s.core (journaled_of s.slots) (flush_of s.flush)

-- what its areas hold
abbrev pub areas_of : code.Doing → Areas
areas_of (does.Stopped disk) = disk.below.areas
areas_of (does.Faulted disk) = disk.below.areas
areas_of (does.Opening opening) = opening.disk.below.areas
areas_of (does.Serving s) = s.slots.disk.below.areas

-- how many device calls its disk was asked for
abbrev pub calls_of : code.Doing → ℕ
calls_of (does.Stopped disk) = disk.calls
calls_of (does.Faulted disk) = disk.calls
calls_of (does.Opening opening) = opening.disk.calls
calls_of (does.Serving s) = s.slots.disk.calls

-- the failure that is due at its disk
abbrev pub due_of : code.Doing → Option (List ℕ)
due_of (does.Stopped disk) = disk.due
due_of (does.Faulted disk) = disk.due
due_of (does.Opening opening) = opening.disk.due
due_of (does.Serving s) = s.slots.disk.due

-- a node of so many that does this
abbrev pub seat_of : ℕ → ℕ → code.Doing → Seat
seat_of n p doing = record { nodes = n; node = p; doing = doing_of doing; areas = areas_of doing; calls = calls_of doing }

-- a job is of the core's running group, which has a spelling, and writes its frame where the journal appends
pub record IsJobOf (s : NodeState) (j : Journal NodeDisk) (job : gate.Flush) : Type 0 where
  pub node : job.node ≡ s.node
  pub area : job.area ≡ j.area
  pub gate : job.gate ≡ j.gate
  pub body : job.body ≡ frame_bytes (group_bytes job.group)
  pub group : running_group s ≡ Some job.group
  pub lawful : IsLawfulGroup job.group
  pub next : j.next ≡ s.marked_end

-- a switch is to the snapshot of the core's marked facts, which has a spelling, in the other area with the next epoch, and no group runs
pub record IsSwitchOf (s : NodeState) (j : Journal NodeDisk) (job : Switch) : Type 0 where
  pub area : job.area ≡ other_area j.area
  pub epoch : job.epoch ≡ j.epoch + 1
  pub body : job.body ≡ frame_bytes (snapshot_bytes (seats.snapshot_of s (journaled_of j)))
  pub lawful : IsLawfulSnapshot (seats.snapshot_of s (journaled_of j))
  pub next : j.next ≡ s.marked_end
  pub rests : s.running ≡ None

-- a flush is of the core's running group, and a switch of its marked facts, of which the journal has the number; where no job runs it isn't busy
abbrev pub IsFlushOf : NodeState → Journal NodeDisk → code_2.Flush → Type 0
IsFlushOf s j flush.Resting = (s.running ≡ None) × (j.busy ≡ false) × (j.next ≡ s.marked_end)
IsFlushOf s j (flush.Body job) = IsJobOf s j job
IsFlushOf s j (flush.BodyOut job) = IsJobOf s j job
IsFlushOf s j (flush.BodySafe job) = IsJobOf s j job
IsFlushOf s j (flush.GateSet job) = IsJobOf s j job
IsFlushOf s j (flush.Flushed synced) =
    (synced.node ≡ s.node) × (running_group s ≡ Some synced.group) × (j.busy ≡ false)
    × (j.next ≡ synced.group.serial + length synced.group.facts)
IsFlushOf s j (flush.Switching job) = IsSwitchOf s j job

-- the journal has noted whether the other area has to be closed; in a switch that area looks formatted once its gate is open
abbrev pub IsBeside : code_2.Flush → Journal NodeDisk → Type 0
IsBeside flush.Resting j = IsOtherKnown areas_in j
IsBeside (flush.Body job) j = IsOtherKnown areas_in j
IsBeside (flush.BodyOut job) j = IsOtherKnown areas_in j
IsBeside (flush.BodySafe job) j = IsOtherKnown areas_in j
IsBeside (flush.GateSet job) j = IsOtherKnown areas_in j
IsBeside (flush.Flushed synced) j = IsOtherKnown areas_in j
IsBeside (flush.Switching job) j = job.stage ≡ stage.SettlingGate → closes_in j.disk.below.areas job.area ≡ true

-- the journal appends behind the first gate of its area, which looks formatted
pub record IsAppending (j : Journal NodeDisk) : Type 0 where
  pub behind : 0 < j.gate
  pub formatted : closes_in j.disk.below.areas j.area ≡ true

-- a snapshot of a node can hold its marked facts
abbrev pub MaySnap : NodeState → Type 0
MaySnap s = IsSnapshot (record { node = s.node; nodes = s.nodes; epoch = 1; next = s.marked_end; entries = s.marked })

-- a node that is up is node p of n over its own journal, which hasn't failed, no failure is due, and a snapshot can hold its marked facts
pub record IsServing (n p : ℕ) (s : Serving) : Type 0 where
  pub nodes : s.core.nodes ≡ n
  pub node : s.core.node ≡ p
  pub journal_nodes : s.slots.nodes ≡ n
  pub journal_node : s.slots.node ≡ p
  pub sound : s.slots.failed ≡ false
  pub calm : s.slots.disk.due ≡ None
  pub flush : IsFlushOf s.core s.slots s.flush
  pub appending : IsAppending s.slots
  pub beside : IsBeside s.flush s.slots
  pub snaps : MaySnap s.core

-- what holds of node p of n between events: no failure is due, and what stands on the disk of an opening is what its phase has come to
abbrev pub IsSteady : ℕ → ℕ → code.Doing → Type 0
IsSteady n p (does.Stopped disk) = disk.due ≡ None
IsSteady n p (does.Faulted disk) = disk.due ≡ None
IsSteady n p (does.Opening o) = (o.nodes ≡ n) × (o.node ≡ p) × (o.disk.due ≡ None) × OpensAny n p o.phase (areas_in o.disk)
IsSteady n p (does.Serving s) = IsServing n p s

-- the events that a node takes: a restart where it is down or has failed, its device calls while it opens, and any while it serves
abbrev pub Takes : NodeEvent Message → seats.Doing → Type 0
Takes event seats.Stopped = event ≡ at.Restart
Takes event seats.Faulted = event ≡ at.Restart
Takes event (seats.Opening phase) = event ≡ at.Device
Takes event (seats.Serving s journal flush) = Unit {0}

-- from one steady doing an event leads, with this answer, to another as the definitions say
abbrev pub Carries : ℕ → ℕ → NodeEvent Message → code.Doing → Result Outcome Refusal → code.Doing → Type 0
Carries n p event old answer new = IsSteady n p old → Gives event (seat_of n p old) answer (seat_of n p new) × IsSteady n p new

-- the same of a node that is up, whichever node it is
abbrev pub CarriesOn : NodeEvent Message → Serving → Result Outcome Refusal → code.Doing → Type 0
CarriesOn event s answer new = (n p : ℕ) → Carries n p event (does.Serving s) answer new

-- the next device call of a job of a node with this core leads to this job over this journal, or is refused and the node has failed
abbrev pub StepsOn : NodeState → Journal NodeDisk → code_2.Flush → Result code_2.Flush Refusal → Journal NodeDisk → Type 0
StepsOn s j f (Ok next) k =
    CarriesOn at.Device (record { core = s; slots = j; flush = f }) (Ok Quiet)
    (does.Serving (record { core = s; slots = k; flush = next }))
StepsOn s j f (Err e) k = CarriesOn at.Device (record { core = s; slots = j; flush = f }) (Err e) (does.Faulted k.disk)

-- a journal is node p's of n, rests and hasn't failed
pub record IsOpened (n p : ℕ) (j : Journal NodeDisk) : Type 0 where
  pub nodes : j.nodes ≡ n
  pub node : j.node ≡ p
  pub sound : j.failed ≡ false
  pub rests : j.busy ≡ false
  pub calm : j.disk.due ≡ None
  pub appending : IsAppending j
  pub beside : IsOtherKnown areas_in j

-- from one steady doing a failing device call leads, with this answer, to another as the definitions say
abbrev pub CarriesFailing : ℕ → ℕ → List ℕ → code.Doing → Result Outcome Refusal → code.Doing → Type 0
CarriesFailing n p fill old answer new = IsSteady n p old → Fails fill (seat_of n p old) answer (seat_of n p new) × IsSteady n p new

-- a device call of a job is due
abbrev pub IsDue : code_2.Flush → Type 0
IsDue flush.Resting = ⊥
IsDue (flush.Flushed synced) = ⊥
IsDue f = Unit {0}

-- the journal whose next device call fails with this fill
abbrev pub armed : List ℕ → Journal NodeDisk → Journal NodeDisk
armed fill j = record j { disk = record j.disk { due = Some fill } }

-- over a journal that is armed, the device call that is due fails, and the node of this core with it
abbrev pub FailsOn : Journal NodeDisk → code_2.Flush → Journal NodeDisk → Type 0
FailsOn j f k = (s : NodeState) (calm : Journal NodeDisk) (n p : ℕ) (fill : List ℕ) → IsDue f → j ≡ armed fill calm
    → CarriesFailing n p fill (does.Serving (record { core = s; slots = calm; flush = f })) (Err Device) (does.Faulted k.disk)

-- an opening of node p of n ended with this core, just started, and these areas: the node serves, or memory was wanting and it is down
abbrev pub Serves : ℕ → ℕ → NodeState → Journal NodeDisk → Result Outcome Refusal → code.Doing → Type 0
Serves n p core j answer new =
    IsOpened n p j
    → core ≡ started n p core.marked j.next
    → IsSnapshot (record { node = p; nodes = n; epoch = 1; next = j.next; entries = core.marked })
    → (let given : Answer = (answer, seat_of n p new) in
    (given ≡ serves j.area (record { epoch = j.epoch; promise = core.marked; next = j.next; gate = j.gate }) (seat_of n p (does.Stopped j.disk)))
    ⊎ (given ≡ (Err OutOfMemory, seat_of n p (does.Stopped j.disk))))
    × IsSteady n p new

-- an opening that found this end, closed: its journal, and the end of the opening
abbrev pub closed : OpeningState NodeDisk → End → Progress NodeDisk
closed o end = Done (journal_of o end) (opened_of o end)

-- the last step of an opening, from the first of these, left the second with this end
pub record Ended (old o : OpeningState NodeDisk) (end : End) : Type 0 where
  pub steps : Steps (FailingRead MemoryRead) (FailingWrite MemoryWrite) (FailingSync MemorySync) old (Ok (closed o end))
  pub comes : ComesToAny areas_in (closed o end)
  pub knows : KnowsOther areas_in (closed o end)
  pub snaps : last.MaySnap (closed o end)
  pub calls : o.disk.calls ≡ counted old.disk.calls

-- some last step did, and the opening has its end
abbrev pub HasEnded : OpeningState NodeDisk → Type 0
HasEnded o = (end : End) × (o.end ≡ Some end) × ((old : OpeningState NodeDisk) × Ended old o end)

-- what comes then carries out the device call of that step
abbrev pub Closes : OpeningState NodeDisk → Result Outcome Refusal → code.Doing → Type 0
Closes o answer new = (end : End) → o.end ≡ Some end → (n p : ℕ) (old : OpeningState NodeDisk) → Ended old o end → Carries n p at.Device (does.Opening old) answer new

-- a report tells nothing of an input that was taken
abbrev pub quiet : Result (Unit {0}) Refusal → Result Outcome Refusal
quiet (Ok x) = Ok Quiet
quiet (Err e) = Err e

-- an event leads, with this quiet answer, from one doing of whichever node to another; without an answer nothing changes
abbrev pub CarriesQuietly : NodeEvent Message → code.Doing → Option (Result (Unit {0}) Refusal) → code.Doing → Type 0
CarriesQuietly event old None new = new ≡ old
CarriesQuietly event old (Some answer) new = (n p : ℕ) → Carries n p event old (quiet answer) new
