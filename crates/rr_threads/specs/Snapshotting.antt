-- A snapshot that a flusher writes.
use Rattle.std.specs.Prelude.{◌≡◌, ℕ, ◌+◌, Bool, true, false, Option, None, Some}
use Rattle.rr_frame.specs.SnapshotFormat.{snapshot_bytes}
use Rattle.rr_model.specs.NodeState.{NodeState}
use Rattle.rr_journal.specs.declared.journal.Journal.{Journal}
use Rattle.rr_journal.specs.Calls.{frame_bytes}
use Rattle.rr_journal.specs.Switches.{Switch, snapshot_of, switched}

-- a switch is begun to the next epoch, and the journal is busy; or none is begun, and it is as it was
abbrev pub IsBegun : {D : Type 0} → Journal D → Option Switch → Journal D → Type 0
IsBegun old None new = new ≡ old
IsBegun old (Some job) new = (job.epoch ≡ old.epoch + 1) × (new ≡ record old { busy = true })

-- what a switch writes is the snapshot of all that the node has marked
abbrev pub HoldsMarked : {D : Type 0} → NodeState → Journal D → Switch → Type 0
HoldsMarked s old job = job.body ≡ frame_bytes (snapshot_bytes (snapshot_of old s.marked))

-- a switch is made, by its last device call: the journal goes on behind its snapshot
abbrev pub IsMade : {D : Type 0} → Switch → Journal D → Journal D → Type 0
IsMade job old new = new ≡ record (switched job old) { disk = new.disk }

-- a snapshot is written, and the journal goes on in the next epoch, with the same next fact; or none is, and it is as it was
abbrev pub IsWritten : {D : Type 0} → Bool → Journal D → Journal D → Type 0
IsWritten true old new = (new.epoch ≡ old.epoch + 1) × (new.next ≡ old.next) × (new.busy ≡ false)
IsWritten false old new = new ≡ old
