-- How the job of a node goes on once the host has made the write that was due, and synced it.
use Rattle.std.specs.Prelude.{◌≡◌, ◌⊎◌, ◌+◌, [], ◌∷◌, length, None, Some, false}
use Rattle.rr_types.specs.declared.refusal.Refusal.{Refusal}
use Rattle.rr_types.specs.declared.refusal.Refusal.TheVariants.{Device, Failed}
use Rattle.rr_types.specs.Counts.{counted}
use Rattle.rr_journal.specs.Flushes as gate
use Rattle.rr_journal.specs.declared.journal.Journal.{Journal}
use Rattle.rr_host.specs.Disks.{DiskState, called, noted}
use Rattle.rr_host.specs.declared.flush.Flush.{Flush}
use Rattle.rr_host.specs.declared.flush.Flush.TheVariants.{Resting, BodyOut, GateSet, Flushed, Switching}

-- a device call of the journal has failed
abbrev pub HasFailed : Refusal → Type 0
HasFailed e = (e ≡ Device) ⊎ (e ≡ Failed)

-- the disk once what was written is synced
abbrev pub settled : DiskState → DiskState
settled d = record d { written = None; calls = counted d.calls; syncs = counted d.syncs }

-- the journal once a flush has ended
abbrev pub flushed : gate.Flush → Journal DiskState → Journal DiskState
flushed job j = record j { disk = settled j.disk; gate = job.gate + length job.body; next = job.group.serial + length job.group.facts; busy = false }

-- a switch goes on, or is done
abbrev pub IsOfSwitch : Flush → Type 0
IsOfSwitch (Switching job) = Unit {0}
IsOfSwitch Resting = Unit {0}
IsOfSwitch _ = ⊥

-- what a job is behind a step, and the journal: a body that is written is synced, and the host is asked to open the gate before it; a gate that
-- is open is synced, and the group is safe
abbrev pub StepsOn : Journal DiskState → Flush → Flush → Journal DiskState → Type 0
StepsOn j Resting next k = (next ≡ Resting) × (k ≡ j)
StepsOn j (Flushed synced) next k = (next ≡ Flushed synced) × (k ≡ j)
StepsOn j (BodyOut job) next k =
    (next ≡ GateSet job) × (k ≡ record j { disk = called (noted job.area job.gate (165 ∷ []) (settled j.disk)) })
StepsOn j (GateSet job) next k = (next ≡ Flushed (record { node = job.node; group = job.group })) × (k ≡ flushed job j)
StepsOn j (Switching job) next k = IsOfSwitch next × (k.nodes ≡ j.nodes) × (k.node ≡ j.node) × (k.next ≡ j.next)
