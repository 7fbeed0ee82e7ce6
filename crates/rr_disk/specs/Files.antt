-- A disk of two files, and what its device calls give: lengths, counts, and the calls that it asked of its files.
use Rattle.std.specs.Prelude.{◌≡◌, ◌⊎◌, ℕ, ◌+◌, ◌-◌, ◌^◌, ◌<◌, ◌≤◌, min, max, Bool, true, false, List, length, Result, MatchResult, Vec}
use Rattle.std.specs.declared.alloc.Global.{Global}
use Rattle.rr_types.specs.declared.refusal.Refusal.{Refusal}
use Rattle.rr_types.specs.declared.refusal.Refusal.TheVariants.{Device, OutOfMemory}
use Rattle.rr_disk.specs.declared.area.Area.{Area}
use Rattle.rr_disk.specs.declared.area.Area.TheVariants.{First, Second}
use Rattle.rr_disk.specs.Asked.{Call, reads, writes, syncs, WritesBack}
use Rattle.rr_types.specs.Counts.{counted}

-- an area in a file: its length, and whether something was written since its last sync
pub record Held (F : Type 0) : Type 0 where
  pub file : F
  pub len : ℕ
  pub unsynced : Bool

-- a disk of two files: its areas, whether no sync has succeeded since it was opened or since one failed, and how many device calls were made and failed
pub record FileState (F : Type 0) : Type 0 where
  pub first : Held F
  pub second : Held F
  pub doubted : Bool
  pub calls : ℕ
  pub faults : ℕ

-- one of the two areas
abbrev pub held_of : {F : Type 0} → FileState F → Area → Held F
held_of disk First = disk.first
held_of disk Second = disk.second

-- the disk with another state of one of its areas
abbrev pub with_held : {F : Type 0} → FileState F → Area → Held F → FileState F
with_held disk First held = record disk { first = held }
with_held disk Second held = record disk { second = held }

-- the disk after one more call
abbrev pub file_called : {F : Type 0} → FileState F → FileState F
file_called disk = record disk { calls = counted disk.calls }

-- the disk after one more call, which failed
abbrev pub file_failed : {F : Type 0} → FileState F → FileState F
file_failed disk = record disk { calls = counted disk.calls; faults = counted disk.faults }

-- a disk of these files, which was just opened
abbrev pub opened : {F : Type 0} → F → ℕ → F → ℕ → FileState F
opened first first_len second second_len =
    record {
      first = record { file = first; len = first_len; unsynced = false };
      second = record { file = second; len = second_len; unsynced = false };
      doubted = true;
      calls = 0;
      faults = 0;
    }

module _ {F : Type 0} (gives : F → Call → F → Type 0) where
  -- what reading an area gives: as many bytes as are asked for or as there are, by one read of its file; or that fails, or memory is refused
  abbrev pub HeldRead : Held F → ℕ → ℕ → Result (Vec ℕ Global) Refusal → Held F → Type 0
  HeldRead old at count result new =
      (new ≡ record old { file = new.file })
      × MatchResult result (λ v. (length v.items ≡ min count (old.len - at)) × gives old.file (reads at v.items true) new.file)
      (λ e. ((e ≡ OutOfMemory) × (new.file ≡ old.file)) ⊎ ((e ≡ Device) × ((bytes : List ℕ) × gives old.file (reads at bytes false) new.file)))

  -- what writing to an area gives: one write of its file, in its place. Where that fails the area may have grown up to its
  -- end; past the area's end none is asked for
  abbrev pub HeldWrite : Held F → ℕ → List ℕ → Result (Unit {0}) Refusal → Held F → Type 0
  HeldWrite old at bytes result new =
      let end = at + length bytes in
      MatchResult result
      (λ _. (at ≤ old.len) × (end < 2 ^ 64) × gives old.file (writes at bytes true) new.file
      × (new ≡ record { file = new.file; len = max old.len end; unsynced = true }))
      (λ e. (e ≡ Device)
      × (((old.len < at) ⊎ (2 ^ 64 ≤ end)) × (new ≡ old)
      ⊎ (at ≤ old.len) × gives old.file (writes at bytes false) new.file × (old.len ≤ new.len)
      × (new.len ≤ max old.len end) × (new.unsynced ≡ true)))

  -- a sync of one area, where the disk is doubted or not, that succeeds or not: none is asked for where nothing was written,
  -- and where the disk is doubted the bytes are written back before it
  pub data HeldSync : Bool → Bool → Held F → Held F → Type 0 where
    unneeded : (held : Held F) → held.unsynced ≡ false → HeldSync false true held held
    needed : (held : Held F) (file : F) → held.unsynced ≡ true → gives held.file (syncs true) file
        → HeldSync false true held (record held { file = file; unsynced = false })
    failing : (held : Held F) (file : F) → held.unsynced ≡ true → gives held.file (syncs false) file → HeldSync false false held (record held { file = file })
    behind : (held : Held F) (mid file : F) → WritesBack gives held.len true 0 held.file mid
        → gives mid (syncs true) file
        → HeldSync true true held (record held { file = file; unsynced = false })
    failing_behind : (held : Held F) (mid file : F) → WritesBack gives held.len true 0 held.file mid
        → gives mid (syncs false) file
        → HeldSync true false held (record held { file = file })
    stopped : (held : Held F) (file : F) → WritesBack gives held.len false 0 held.file file → HeldSync true false held (record held { file = file })

  -- what a read gives
  abbrev pub FileRead : FileState F → Area → ℕ → ℕ → Result (Vec ℕ Global) Refusal → FileState F → Type 0
  FileRead old area at count result new =
      HeldRead (held_of old area) at count result (held_of new area)
      × MatchResult result (λ _. new ≡ file_called (with_held old area (held_of new area)))
      (λ e. ((e ≡ OutOfMemory) × (new ≡ file_called (with_held old area (held_of new area))))
      ⊎ ((e ≡ Device) × (new ≡ file_failed (with_held old area (held_of new area)))))

  -- what a write gives
  abbrev pub FileWrite : FileState F → Area → ℕ → List ℕ → Result (Unit {0}) Refusal → FileState F → Type 0
  FileWrite old area at bytes result new =
      HeldWrite (held_of old area) at bytes result (held_of new area)
      × MatchResult result (λ _. new ≡ file_called (with_held old area (held_of new area))) (λ _. new ≡ file_failed (with_held old area (held_of new area)))

  -- what a sync gives: both areas are synced, or one of them fails; where the first fails the second isn't tried
  abbrev pub FileSync : FileState F → Result (Unit {0}) Refusal → FileState F → Type 0
  FileSync old result new = MatchResult result
      (λ _. HeldSync old.doubted true old.first new.first × HeldSync old.doubted true old.second new.second
      × (new ≡ file_called (record old { first = new.first; second = new.second; doubted = false })))
      (λ e. (e ≡ Device)
      × (HeldSync old.doubted false old.first new.first × (new.second ≡ old.second)
      ⊎ HeldSync old.doubted true old.first new.first × HeldSync old.doubted false old.second new.second)
      × (new ≡ file_failed (record old { first = new.first; second = new.second; doubted = true })))
