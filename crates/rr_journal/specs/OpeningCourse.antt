-- What an opening makes of the bytes as they stand: what it finds, the device calls that are left, and how it ends.
use Rattle.std.specs.Prelude.{◌≡◌, ◌⊎◌, ℕ, ◌+◌, ◌-◌, ◌^◌, min, true, if◌then◌else◌, List, [], ◌∷◌, length, Result, Ok, Err}
use Rattle.rr_types.specs.declared.refusal.Refusal.{Refusal}
use Rattle.rr_types.specs.declared.refusal.Refusal.TheVariants.{OutOfMemory, Device, Damaged, TooLarge}
use Rattle.rr_disk.specs.declared.area.Area.{Area}
use Rattle.rr_disk.specs.declared.area.Area.TheVariants.{First, Second}
use Rattle.rr_disk.specs.Areas.{Extent, Areas, extent_of, read_of, settled, synced}
use Rattle.rr_types.specs.Counts.{Grew}
use Rattle.rr_journal.specs.declared.journal.Journal.{Journal}
use Rattle.rr_journal.specs.declared.opened.Opened.{Opened}
use Rattle.rr_journal.specs.declared.opening.Progress as code_2
use Rattle.rr_journal.specs.declared.opening.Progress.TheVariants as progress
use Rattle.rr_journal.specs.Calls.{Call, Read, Sync, after_call, format_calls}
use Rattle.rr_journal.specs.Ends.{area_number}
use Rattle.rr_journal.specs.Image.{Found, Unformatted, Broken, Active, Outdated, found}
use Rattle.rr_journal.specs.Openings.{Phase, Settling, ReadingFirst, ReadingSecond, Rewriting, Opens, Stops, bytes_in, migrate_calls, end_by, due_call}
use Rattle.rr_journal.specs.Migration.{may_migrate}
use Rattle.rr_journal.specs.OtherAreas.{other_area}
use Rattle.rr_journal.specs.OpeningStates.{OpeningState}
use Rattle.rr_journal.specs.Phases.{phase_of}
use Rattle.rr_journal.specs.Rewrites.{writes_anew, area_kept}

-- the device calls that are left at most
abbrev pub calls_left : Phase → ℕ
calls_left Settling = 9
calls_left ReadingFirst = 8
calls_left (ReadingSecond first) = 7
calls_left (Rewriting found calls) = length calls

-- what a read of a whole area gives
abbrev pub whole_read : Extent → List ℕ
whole_read extent = read_of 0 (2 ^ 64 - 1) extent

-- what an opening in this phase finds, of an area that it hasn't read by the bytes as they stand
abbrev pub found_from : ℕ → ℕ → Phase → Areas → Found
found_from n p Settling both = found n p (whole_read both.first) (whole_read both.second)
found_from n p ReadingFirst both = found n p (whole_read both.first) (whole_read both.second)
found_from n p (ReadingSecond first) both = found n p first (whole_read both.second)
found_from n p (Rewriting found calls) both = found

-- the device calls behind the reads of both areas, by what they find
abbrev pub calls_by : ℕ → ℕ → List ℕ → List ℕ → Found → List Call
calls_by n p first second Unformatted = format_calls n p first
calls_by n p first second (Broken area offset) = []
calls_by n p first second (Active area c) = []
calls_by n p first second (Outdated area c) = if may_migrate c then migrate_calls n p area c (bytes_in (other_area area) first second) else []

-- the device calls that are left
abbrev pub calls_from : ℕ → ℕ → Phase → Areas → List Call
calls_from n p Settling both =
    Sync ∷ Read First ∷ Read Second
    ∷ calls_by n p (whole_read both.first) (whole_read both.second) (found n p (whole_read both.first) (whole_read both.second))
calls_from n p ReadingFirst both =
    Read First ∷ Read Second
    ∷ calls_by n p (whole_read both.first) (whole_read both.second) (found n p (whole_read both.first) (whole_read both.second))
calls_from n p (ReadingSecond first) both = Read Second ∷ calls_by n p first (whole_read both.second) (found n p first (whole_read both.second))
calls_from n p (Rewriting found []) both = Sync ∷ []
calls_from n p (Rewriting found (call ∷ calls)) both = call ∷ calls

-- both areas after these calls
abbrev pub areas_after : List Call → Areas → Areas
areas_after [] both = both
areas_after (call ∷ calls) both = areas_after calls (after_call call both)

-- these calls were made on a disk, each of them counted, and nothing else
abbrev pub IsDone : {D : Type 0} → List Call → (D → Areas) → (D → ℕ) → D → D → Type 0
IsDone calls areas counts old new = (areas new ≡ areas_after calls (areas old)) × (counts new ≡ min (counts old + length calls) (2 ^ 64 - 1))

-- an opening that found this ends so, or is refused for memory or by the device
abbrev pub EndsBy : {D : Type 0} → Found → Result (Journal D × Opened) (Refusal × D) → Type 0
EndsBy found (Ok (journal, opened)) =
    end_by found
    ≡ Opens journal.area (record { epoch = journal.epoch; promise = opened.promise; next = opened.next; gate = journal.gate })
EndsBy found (Err (e, disk)) = (e ≡ OutOfMemory) ⊎ (e ≡ Device) ⊎ (end_by found ≡ Stops e)

-- behind a step an opening finds what it would have found, and makes the calls that were left but one; or it ends so, or is refused for memory or by the device
abbrev pub StaysOnCourse : {D : Type 0} → (D → Areas) → OpeningState D → Result (code_2.Progress D) (Refusal × D) → Type 0
StaysOnCourse areas o (Ok (progress.More next)) = (areas next.disk ≡ after_call (due_call (phase_of o.phase)) (areas o.disk))
    × (found_from next.nodes next.node (phase_of next.phase) (areas next.disk) ≡ found_from o.nodes o.node (phase_of o.phase) (areas o.disk))
    × (calls_from o.nodes o.node (phase_of o.phase) (areas o.disk)
    ≡ due_call (phase_of o.phase) ∷ calls_from next.nodes next.node (phase_of next.phase) (areas next.disk))
StaysOnCourse areas o (Ok (progress.Done journal opened)) = (areas journal.disk ≡ after_call (due_call (phase_of o.phase)) (areas o.disk))
    × (end_by (found_from o.nodes o.node (phase_of o.phase) (areas o.disk))
    ≡ Opens journal.area
    (record { epoch = journal.epoch; promise = opened.promise; next = opened.next; gate = journal.gate }))
    × (calls_from o.nodes o.node (phase_of o.phase) (areas o.disk) ≡ due_call (phase_of o.phase) ∷ [])
StaysOnCourse areas o (Err (e, disk)) = (e ≡ OutOfMemory) ⊎ (e ≡ Device) ⊎ (end_by (found_from o.nodes o.node (phase_of o.phase) (areas o.disk)) ≡ Stops e)

-- an opening is refused for memory, where a device call failed, for damage, or for want of a next epoch
abbrev pub IsRefused : {D : Type 0} → (D → ℕ) → D → Refusal × D → Type 0
IsRefused faults old (e, new) =
    (e ≡ OutOfMemory) ⊎ ((e ≡ Device) × Grew (faults old) (faults new))
    ⊎ ((area : Area) × (offset : ℕ) × (e ≡ Damaged (area_number area) offset)) ⊎ (e ≡ TooLarge)

-- both areas are as they were, or synced
abbrev pub IsAsBefore : Areas → Areas → Type 0
IsAsBefore old new = (new ≡ old) ⊎ (new ≡ synced old)

-- an area is as it was, or synced
abbrev pub IsLeftAlone : Extent → Extent → Type 0
IsLeftAlone old new = (new ≡ old) ⊎ (new ≡ settled old)

-- an opening writes an area anew only where what it found asks for that
abbrev pub IsDue : Phase → Type 0
IsDue Settling = Unit {0}
IsDue ReadingFirst = Unit {0}
IsDue (ReadingSecond first) = Unit {0}
IsDue (Rewriting found calls) = writes_anew found ≡ true

-- an opening that writes nothing yet leaves both areas as they were; its first call syncs them. One that writes an area anew leaves the other alone
abbrev pub IsUntouched : Phase → Areas → Areas → Type 0
IsUntouched Settling old new = IsAsBefore old new
IsUntouched ReadingFirst old new = new ≡ old
IsUntouched (ReadingSecond first) old new = new ≡ old
IsUntouched (Rewriting found calls) old new = IsLeftAlone (extent_of old (area_kept found)) (extent_of new (area_kept found))
