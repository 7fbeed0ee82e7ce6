-- An opening, device call by device call.
use Rattle.std.specs.Prelude.{ℕ, ◌-◌, ◌^◌, if◌then◌else◌, List, [], ◌∷◌, Result, Ok, Err, Vec}
use Rattle.std.specs.declared.alloc.Global.{Global}
use Rattle.rr_types.specs.declared.refusal.Refusal.{Refusal}
use Rattle.rr_types.specs.declared.refusal.Refusal.TheVariants as because
use Rattle.rr_disk.specs.declared.area.Area.{Area}
use Rattle.rr_disk.specs.declared.area.Area.TheVariants.{First, Second}
use Rattle.rr_frame.specs.Snapshots.{Snapped}
use Rattle.rr_frame.specs.SnapshotFormat.{snapshot_bytes}
use Rattle.rr_journal.specs.Ends.{area_number}
use Rattle.rr_journal.specs.Image.{Content, Found, Unformatted, Broken, Active, Outdated, found}
use Rattle.rr_journal.specs.Migration.{migrated, may_migrate}
use Rattle.rr_journal.specs.Calls.{Call, Read, Write, Sync, must_close, rewrite_calls, format_calls}
use Rattle.rr_journal.specs.OtherAreas.{other_area}

-- how far an opening has come: before its sync, its reads, with area 0 read, and in the calls that write an area anew, because of what was found
pub data Phase : Type 0 where
  Settling : Phase
  ReadingFirst : Phase
  ReadingSecond : List ℕ → Phase
  Rewriting : Found → List Call → Phase

-- what comes behind a device call: another phase, an open disk, or a refusal
pub data After : Type 0 where
  Goes : Phase → After
  Opens : Area → Content → After
  Stops : Refusal → After

-- the device call that is due
abbrev pub due_call : Phase → Call
due_call Settling = Sync
due_call ReadingFirst = Read First
due_call (ReadingSecond first) = Read Second
due_call (Rewriting found []) = Sync
due_call (Rewriting found (call ∷ calls)) = call

-- the snapshot that begins this content at node p of n
abbrev pub snapshot_with : ℕ → ℕ → Content → Snapped
snapshot_with n p c = record { node = p; nodes = n; epoch = c.epoch; next = c.next; entries = c.promise }

-- what a freshly formatted disk holds: an empty promise behind a snapshot of 23 bytes
abbrev pub formatted : Content
formatted = record { epoch = 1; promise = []; next = 0; gate = 28 }

-- the bytes of one of two areas
abbrev pub bytes_in : Area → List ℕ → List ℕ → List ℕ
bytes_in First first second = first
bytes_in Second first second = second

-- the calls that write that snapshot beside an area of version 1, by the bytes that stand there
abbrev pub migrate_calls : ℕ → ℕ → Area → Content → List ℕ → List Call
migrate_calls n p area c other = rewrite_calls (other_area area) (must_close other) (snapshot_bytes (snapshot_with n p (migrated c)))

-- what comes behind the reads of both areas, by what was found
abbrev pub after_found : ℕ → ℕ → List ℕ → List ℕ → Found → After
after_found n p first second Unformatted = Goes (Rewriting Unformatted (format_calls n p first))
after_found n p first second (Broken area offset) = Stops (because.Damaged (area_number area) offset)
after_found n p first second (Active area c) = Opens area c
after_found n p first second (Outdated area c) =
    if may_migrate c then Goes (Rewriting (Outdated area c) (migrate_calls n p area c (bytes_in (other_area area) first second))) else Stops because.TooLarge

-- how an opening ends by what it finds: a disk that isn't formatted is formatted, and an area of version 1 gives way to the other
abbrev pub end_by : Found → After
end_by Unformatted = Opens First formatted
end_by (Broken area offset) = Stops (because.Damaged (area_number area) offset)
end_by (Active area c) = Opens area c
end_by (Outdated area c) = if may_migrate c then Opens (other_area area) (migrated c) else Stops because.TooLarge

-- what comes behind a device call of an opening of node p of n that succeeded, a read with these bytes
abbrev pub after_opening_call : ℕ → ℕ → List ℕ → Phase → After
after_opening_call n p bytes Settling = Goes ReadingFirst
after_opening_call n p bytes ReadingFirst = Goes (ReadingSecond bytes)
after_opening_call n p bytes (ReadingSecond first) = after_found n p first bytes (found n p first bytes)
after_opening_call n p bytes (Rewriting found []) = end_by found
after_opening_call n p bytes (Rewriting found (call ∷ [])) = end_by found
after_opening_call n p bytes (Rewriting found (call ∷ next ∷ calls)) = Goes (Rewriting found (next ∷ calls))

module _ {D : Type 0} (of_read : D → Area → ℕ → ℕ → Result (Vec ℕ Global) Refusal → D → Type 0)
    (of_write : D → Area → ℕ → List ℕ → Result (Unit {0}) Refusal → D → Type 0)
    (of_sync : D → Result (Unit {0}) Refusal → D → Type 0) where
  -- a device call answered Ok, a read with these bytes, by what the disk's calls exactly give
  abbrev pub Done : Call → D → Vec ℕ Global → D → Type 0
  Done (Read area) old read new = of_read old area 0 (2 ^ 64 - 1) (Ok read) new
  Done (Write area at written) old read new = of_write old area at written (Ok tt) new
  Done Sync old read new = of_sync old (Ok tt) new

  -- a device call was refused
  abbrev pub Refused : Call → D → Refusal → D → Type 0
  Refused (Read area) old e new = of_read old area 0 (2 ^ 64 - 1) (Err e) new
  Refused (Write area at written) old e new = of_write old area at written (Err e) new
  Refused Sync old e new = of_sync old (Err e) new
