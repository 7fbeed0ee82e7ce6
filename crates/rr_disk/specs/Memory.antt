-- A disk in memory, and what exactly its device calls give.
use Rattle.std.specs.Prelude.{◌≡◌, ℕ, ◌+◌, ◌<◌, ◌≤◌, List, length, Result, IsOk, MatchResult, Vec}
use Rattle.std.specs.declared.alloc.Global.{Global}
use Rattle.rr_types.specs.declared.refusal.Refusal.{Refusal}
use Rattle.rr_types.specs.declared.refusal.Refusal.TheVariants.{Device, OutOfMemory}
use Rattle.rr_disk.specs.declared.area.Area.{Area}
use Rattle.rr_disk.specs.Areas.{Areas, extent_of, replaced, read_of, written, loosened, synced}
use Rattle.rr_types.specs.Counts.{counted}

-- a disk in memory: its areas, and how many device calls were made and failed
pub record MemoryState : Type 0 where
  pub areas : Areas
  pub calls : ℕ
  pub faults : ℕ

-- the disk after one more call, which left these areas
abbrev pub called : Areas → MemoryState → MemoryState
called both disk = record { areas = both; calls = counted disk.calls; faults = disk.faults }

-- the disk after one more call, which failed and left these areas
abbrev pub failed : Areas → MemoryState → MemoryState
failed both disk = record { areas = both; calls = counted disk.calls; faults = counted disk.faults }

-- what a read gives: the bytes, unless memory is refused
abbrev pub MemoryRead : MemoryState → Area → ℕ → ℕ → Result (Vec ℕ Global) Refusal → MemoryState → Type 0
MemoryRead old area at count result new =
    MatchResult result (λ v. v.items ≡ read_of at count (extent_of old.areas area)) (λ e. e ≡ OutOfMemory) × (new ≡ called old.areas old)

-- what a write gives: it is done, unless it starts past the end or memory is refused for a growth
abbrev pub MemoryWrite : MemoryState → Area → ℕ → List ℕ → Result (Unit {0}) Refusal → MemoryState → Type 0
MemoryWrite old area at bytes result new =
    let extent = extent_of old.areas area in
    MatchResult result
    (λ _. (at ≤ length extent.cells) × (new ≡ called (replaced old.areas area (written at bytes extent)) old))
    (λ e. (e ≡ Device) × (length extent.cells < at + length bytes) × (new ≡ failed (replaced old.areas area (loosened at (length bytes) extent)) old))

-- what a sync gives: it is done
abbrev pub MemorySync : MemoryState → Result (Unit {0}) Refusal → MemoryState → Type 0
MemorySync old result new = IsOk result × (new ≡ called (synced old.areas) old)
