-- A switch to a snapshot in the area that isn't active, device call by device call.
use Rattle.std.specs.Prelude.{ℕ, ◌+◌, Bool, true, false, List, length}
use Rattle.rr_types.specs.declared.promise.Entry.{Entry}
use Rattle.rr_disk.specs.declared.area.Area.{Area}
use Rattle.rr_frame.specs.Snapshots.{Snapped}
use Rattle.rr_journal.specs.declared.journal.Journal.{Journal}
use Rattle.rr_journal.specs.declared.stage.Stage.{Stage}
use Rattle.rr_journal.specs.Calls.{Call, rewrite_calls}
use Rattle.rr_journal.specs.Stages.{call_at}

-- a switch of a node, of so many nodes, to this area and epoch: the next fact number, what it writes behind the area's first gate, and how far it has come
pub record Switch : Type 0 where
  pub nodes : ℕ
  pub node : ℕ
  pub area : Area
  pub epoch : ℕ
  pub next : ℕ
  pub body : List ℕ
  pub stage : Stage

-- the snapshot of this promise with the next epoch
abbrev pub snapshot_of : {D : Type 0} → Journal D → List Entry → Snapped
snapshot_of journal promise = record { node = journal.node; nodes = journal.nodes; epoch = journal.epoch + 1; next = journal.next; entries = promise }

-- the device call that is due
abbrev pub due_call : Switch → Call
due_call job = call_at job.area job.body job.stage

-- the calls of a switch to a snapshot of these bytes in an area, by whether that has to be closed first
abbrev pub switch_calls : Area → Bool → List ℕ → List Call
switch_calls area closes payload = rewrite_calls area closes payload

-- the areas at the end of a switch: the other one is active, behind the snapshot
abbrev pub switched : {D : Type 0} → Switch → Journal D → Journal D
switched job journal = record journal { area = job.area; epoch = job.epoch; gate = length job.body; busy = false; closes_other = true }
