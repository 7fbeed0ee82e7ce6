-- The refusal that a program ends with whose folders aren't opened.
use Rattle.std.specs.Prelude.{◌≡◌, ◌⊎◌, ℕ, Bool, true, false}
use Rattle.rr_types.specs.declared.refusal.Refusal.{Refusal}
use Rattle.rr_types.specs.declared.refusal.Refusal.TheVariants as refusals
use Rattle.rr_folders.specs.declared.judging.Fault.{Fault}
use Rattle.rr_folders.specs.declared.judging.Fault.TheVariants.{Cut, OtherNode, OtherNodes, Older, Shorter, Altered}
use Rattle.rr_journal.specs.Image.{Found, Broken}
use Rattle.rr_journal.specs.Ends.{area_number}
use Rattle.rr_folders.specs.declared.closed.Closed.{Closed}
use Rattle.rr_folders.specs.declared.closed.Closed.TheVariants.{OutOfMemory, InUse, Failed, Unopened, Refused}
use Rattle.rr_cli.specs.Refusals.{status_of}

-- whether an opening may say more of a folder with this fault, as its disk may be damaged
abbrev pub may_be_damaged : Fault → Bool
may_be_damaged Cut = true
may_be_damaged (OtherNode q) = true
may_be_damaged (OtherNodes k) = true
may_be_damaged Older = true
may_be_damaged Shorter = true
may_be_damaged Altered = true
may_be_damaged fault = false

-- a device that fails, where another program has locked a folder or a call has failed; the opening's refusal, where it has one. Where a
-- node's folder may not be opened, a device that fails too, unless an opening says more
abbrev pub IsRefusalOf : Closed → Refusal → Type 0
IsRefusalOf OutOfMemory e = e ≡ refusals.OutOfMemory
IsRefusalOf (InUse path) e = e ≡ refusals.Device
IsRefusalOf (Failed path call error) e = e ≡ refusals.Device
IsRefusalOf (Unopened p refusal) e = e ≡ refusal
IsRefusalOf (Refused p fault) e = may_be_damaged fault ≡ false → e ≡ refusals.Device

-- the status is that of such a refusal
abbrev pub IsClosedBy : Closed → ℕ → Type 0
IsClosedBy closed status = (refusal : Refusal) × (status ≡ status_of refusal) × IsRefusalOf closed refusal

-- what an opening of a disk on which this was found is refused with: the damage, where there is some; else a device that fails. Memory may
-- run out first
abbrev pub IsRefusedFor : Found → Refusal → Type 0
IsRefusedFor (Broken area offset) e = (e ≡ refusals.Damaged (area_number area) offset) ⊎ (e ≡ refusals.OutOfMemory)
IsRefusedFor found e = (e ≡ refusals.Device) ⊎ (e ≡ refusals.OutOfMemory)
