-- What stands on a disk in each stage of a switch, and what a crash may leave then.
use Rattle.std.specs.Prelude.{◌≡◌, ◌+◌, ◌^◌, ◌<◌, true, List, [], ◌∷◌, length, None, Some}
use Rattle.rr_types.specs.declared.fact.Fact.{Fact}
use Rattle.rr_types.specs.Promises.{promise_of}
use Rattle.rr_disk.specs.Areas.{Areas}
use Rattle.rr_disk.specs.Crash.{Images, restarted}
use Rattle.rr_frame.specs.SnapshotFormat.{snapshot_bytes, IsLawfulSnapshot}
use Rattle.rr_journal.specs.Flushes.{Flush}
use Rattle.rr_journal.specs.Moments.{image_of, IsAt, body_due, body_out, body_safe, gate_set}
use Rattle.rr_journal.specs.declared.journal.Journal.{Journal}
use Rattle.rr_journal.specs.Calls.{Write, after_call, frame_bytes, must_close}
use Rattle.rr_journal.specs.Held.{Holds}
use Rattle.rr_journal.specs.Journals.{IsOver}
use Rattle.rr_journal.specs.OtherAreas.{other_area}
use Rattle.rr_journal.specs.declared.stage.Stage.{Stage}
use Rattle.rr_journal.specs.declared.stage.Stage.TheVariants.{Closing, SettlingClosed, WritingBody, SettlingBody, OpeningGate, SettlingGate}
use Rattle.rr_journal.specs.declared.switch.Switching as code
use Rattle.rr_journal.specs.declared.switch.Switching.TheVariants as switching
use Rattle.rr_journal.specs.Stages.{stage_behind}
use Rattle.rr_journal.specs.Switches.{Switch, snapshot_of, switched}

-- a device call led to the next stage, or to the end of the switch; of the areas only the disk has changed else
abbrev pub GoesOn : {D : Type 0} → Switch → Journal D → code.Switching → Journal D → Type 0
GoesOn job old (switching.More next) new =
    (stage_behind job.stage ≡ Some next.stage) × (next ≡ record job { stage = next.stage })
    × (new ≡ record old { disk = new.disk })
GoesOn job old switching.Done new = (stage_behind job.stage ≡ None) × (new ≡ record (switched job old) { disk = new.disk })

-- the areas rest on these images, which hold these facts, and know whether the other area has to be closed
pub record IsSlotsOver {D : Type 0} (slots : Journal D) (start : Images) (facts : List Fact) : Type 0 where
  pub over : IsOver slots start facts
  pub closes : slots.closes_other ≡ must_close (image_of start (other_area slots.area))

-- a switch is a flush of no facts: it writes its snapshot behind the first gate of the other area
abbrev pub flush_of : Switch → Flush
flush_of job = record { nodes = job.nodes; node = job.node; area = job.area; gate = 0; body = job.body; group = record { serial = job.next; facts = [] } }

-- a switch of these areas is to the other one, with the next epoch; its snapshot is of the promise of the facts and has a spelling
pub record IsSwitchOf {D : Type 0} (slots : Journal D) (job : Switch) (facts : List Fact) : Type 0 where
  pub nodes : job.nodes ≡ slots.nodes
  pub node : job.node ≡ slots.node
  pub area : job.area ≡ other_area slots.area
  pub epoch : job.epoch ≡ slots.epoch + 1
  pub body : job.body ≡ frame_bytes (snapshot_bytes (snapshot_of slots (promise_of facts)))
  pub spelt : IsLawfulSnapshot (snapshot_of slots (promise_of facts))
  pub short : length (snapshot_bytes (snapshot_of slots (promise_of facts))) < 2 ^ 32

-- both areas in a stage of a switch that began over these images: its gate has to be closed first, or it is at a moment of its flush
abbrev pub IsAtStage : Stage → Switch → Images → List Fact → Areas → Type 0
IsAtStage Closing job start facts both = (must_close (image_of start job.area) ≡ true) × (both ≡ restarted start)
IsAtStage SettlingClosed job start facts both =
    (must_close (image_of start job.area) ≡ true) × (both ≡ after_call (Write job.area 0 (0 ∷ [])) (restarted start))
IsAtStage WritingBody job start facts both = IsAt body_due (Holds job.nodes job.node) (flush_of job) start facts both
IsAtStage SettlingBody job start facts both = IsAt body_out (Holds job.nodes job.node) (flush_of job) start facts both
IsAtStage OpeningGate job start facts both = IsAt body_safe (Holds job.nodes job.node) (flush_of job) start facts both
IsAtStage SettlingGate job start facts both = IsAt gate_set (Holds job.nodes job.node) (flush_of job) start facts both

-- a switch runs over areas that hold these facts
pub record IsSwitching {D : Type 0} (slots : Journal D) (job : Switch) (facts : List Fact) (both : Areas) : Type 0 where
  pub start : Images
  pub over : IsOver slots start facts
  pub own : IsSwitchOf slots job facts
  pub stands : IsAtStage job.stage job start facts both

-- behind a step it still runs, or the other area is active, and the areas rest on images that hold the facts
abbrev pub StandsBehind : {D : Type 0} → Journal D → code.Switching → List Fact → Areas → Type 0
StandsBehind slots (switching.More job) facts both = IsSwitching slots job facts both
StandsBehind slots switching.Done facts both = (end : Images) × (both ≡ restarted end) × IsSlotsOver slots end facts
