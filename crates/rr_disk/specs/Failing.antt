-- A disk whose calls fail on demand, and what exactly its device calls give.
use Rattle.std.specs.Prelude.{◌≡◌, ◌⊎◌, ℕ, zero, suc, ◌+◌, List, [], ◌∷◌, length, Option, None, Result, Err, MatchOption, MatchResult, Vec}
use Rattle.std.specs.declared.alloc.Global.{Global}
use Rattle.rr_types.specs.declared.refusal.Refusal.{Refusal}
use Rattle.rr_types.specs.declared.refusal.Refusal.TheVariants.{Device, OutOfMemory}
use Rattle.rr_disk.specs.declared.area.Area.{Area}
use Rattle.rr_types.specs.Counts.{counted}
use Rattle.rr_disk.specs.Crash.{filled}

-- a disk whose calls fail on demand: the disk below, the fill of a failure that is due, and counts of its own
pub record FailingState (D : Type 0) : Type 0 where
  pub below : D
  pub due : Option (List ℕ)
  pub calls : ℕ
  pub faults : ℕ

-- so many bytes of a fill that is repeated, from the byte with this number on
abbrev pub repeated : List ℕ → ℕ → ℕ → List ℕ
repeated fill k zero = []
repeated fill k (suc n) = filled fill k 0 ∷ repeated fill (k + 1) n

-- what a failing write of so many bytes leaves in their place: the fill repeated, or the bytes themselves where it is empty
abbrev pub overwrites : List ℕ → ℕ → List ℕ
overwrites [] n = []
overwrites (b ∷ fill) n = repeated (b ∷ fill) 0 n

-- the bytes that a failing write of these leaves in its range: its fill, repeated, or they themselves where it is empty
abbrev pub failing_bytes : List ℕ → List ℕ → List ℕ
failing_bytes [] bytes = bytes
failing_bytes (b ∷ fill) bytes = repeated (b ∷ fill) 0 (length bytes)

-- bytes that are written one at a time, from an offset on, up to the first write that is refused
abbrev pub OneByOne : {D : Type 0} → (D → Area → ℕ → List ℕ → Result (Unit {0}) Refusal → D → Type 0) → Area → ℕ → List ℕ → D → D → Type 0
OneByOne {D} gives area at [] old new = new ≡ old
OneByOne {D} gives area at (b ∷ bytes) old new =
    (mid : D) × (r : Result (Unit {0}) Refusal) × gives old area at (b ∷ []) r mid
    × MatchResult r (λ _. OneByOne gives area (at + 1) bytes mid new) (λ _. new ≡ mid)

-- the disk after one more call that went through to the disk below
abbrev pub passed : {D : Type 0} → D → FailingState D → FailingState D
passed below disk = record { below = below; due = None; calls = counted disk.calls; faults = disk.faults }

-- the disk after one more call that failed
abbrev pub fell : {D : Type 0} → D → FailingState D → FailingState D
fell below disk = record { below = below; due = None; calls = counted disk.calls; faults = counted disk.faults }

-- what a read gives: where a failure is due, it and nothing else; else what the disk below gives
abbrev pub FailingRead : {D : Type 0} → (D → Area → ℕ → ℕ → Result (Vec ℕ Global) Refusal → D → Type 0)
    → FailingState D → Area → ℕ → ℕ → Result (Vec ℕ Global) Refusal → FailingState D → Type 0
FailingRead gives old area at count result new =
    MatchOption old.due
    (gives old.below area at count result new.below × MatchResult result (λ _. new ≡ passed new.below old)
    (λ e. ((e ≡ OutOfMemory) × (new ≡ passed new.below old)) ⊎ ((e ≡ Device) × (new ≡ fell new.below old))))
    (λ _. (result ≡ Err Device) × (new ≡ fell old.below old))

-- what a write gives: where a failure is due, it, with the bytes written and the fill written over them; else what the disk below gives
abbrev pub FailingWrite : {D : Type 0} → (D → Area → ℕ → List ℕ → Result (Unit {0}) Refusal → D → Type 0)
    → FailingState D → Area → ℕ → List ℕ → Result (Unit {0}) Refusal → FailingState D → Type 0
FailingWrite {D} gives old area at bytes result new =
    MatchOption old.due
    (gives old.below area at bytes result new.below × MatchResult result (λ _. new ≡ passed new.below old) (λ _. new ≡ fell new.below old))
    (λ fill. (result ≡ Err Device) × (new ≡ fell new.below old)
    × ((mid : D) × (r : Result (Unit {0}) Refusal) × gives old.below area at bytes r mid
    × MatchResult r (λ _. OneByOne gives area at (overwrites fill (length bytes)) mid new.below) (λ _. new.below ≡ mid)))

-- what a sync gives: where a failure is due, it and nothing else; else what the disk below gives
abbrev pub FailingSync : {D : Type 0} → (D → Result (Unit {0}) Refusal → D → Type 0) → FailingState D → Result (Unit {0}) Refusal → FailingState D → Type 0
FailingSync gives old result new =
    MatchOption old.due
    (gives old.below result new.below × MatchResult result (λ _. new ≡ passed new.below old) (λ _. new ≡ fell new.below old))
    (λ _. (result ≡ Err Device) × (new ≡ fell old.below old))
