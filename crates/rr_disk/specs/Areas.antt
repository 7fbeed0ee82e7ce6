-- The two areas of a disk, and what device calls do to them.
use Rattle.std.specs.Prelude.{◌≡◌, ℕ, ◌+◌, ◌<◌, ◌≤◌, max, true, false, List, ◌++◌, map, length, get_or, take, drop}
use Rattle.rr_disk.specs.declared.area.Area.{Area}
use Rattle.rr_disk.specs.declared.area.Area.TheVariants.{First, Second}
use Rattle.rr_disk.specs.declared.cell.Cell.{Cell}

-- an area: its cells, and the length that no crash goes below
pub record Extent : Type 0 where
  pub cells : List Cell
  pub safe : ℕ

-- the two areas of a disk
pub record Areas : Type 0 where
  pub first : Extent
  pub second : Extent

-- one of the two
abbrev pub extent_of : Areas → Area → Extent
extent_of both First = both.first
extent_of both Second = both.second

-- both areas, with another extent for one of them
abbrev pub replaced : Areas → Area → Extent → Areas
replaced both First extent = record both { first = extent }
replaced both Second extent = record both { second = extent }

-- the bytes that a read of the whole area gives
abbrev pub bytes_of : Extent → List ℕ
bytes_of extent = map (λ cell. cell.byte) extent.cells

-- the bytes that a read gives: as many as are asked for, or as there are
abbrev pub read_of : ℕ → ℕ → Extent → List ℕ
read_of at count extent = map (λ cell. cell.byte) (take count (drop at extent.cells))

-- a byte that a crash keeps
abbrev pub firm_cell : ℕ → Cell
firm_cell b = record { byte = b; loose = false }

-- a byte in whose place a crash may leave any other
abbrev pub loose_cell : ℕ → Cell
loose_cell b = record { byte = b; loose = true }

-- an area with these bytes, nothing loose and all of it safe
abbrev pub at_rest : List ℕ → Extent
at_rest bytes = record { cells = map firm_cell bytes; safe = length bytes }

-- an area after a sync
abbrev pub settled : Extent → Extent
settled extent = at_rest (bytes_of extent)

-- both areas after a sync
abbrev pub synced : Areas → Areas
synced both = record { first = settled both.first; second = settled both.second }

-- an area after a write: the bytes stand in its range, loose
abbrev pub written : ℕ → List ℕ → Extent → Extent
written at bytes extent =
    record extent { cells = take at extent.cells ++ map loose_cell bytes ++ drop (at + length bytes) extent.cells }

-- an area after a write that found no memory: what there is of its range is loose
abbrev pub loosened : ℕ → ℕ → Extent → Extent
loosened at count extent =
    record extent { cells = take at extent.cells ++ map (λ cell. loose_cell cell.byte) (take count (drop at extent.cells)) ++ drop (at + count) extent.cells }

-- an area after a write that failed: any bytes in the range, all of them loose, and the rest as it was
pub record Torn (at count : ℕ) (old new : Extent) : Type 0 where
  pub before : take at new.cells ≡ take at old.cells
  pub after : drop (at + count) new.cells ≡ drop (at + count) old.cells
  pub no_shorter : length old.cells ≤ length new.cells
  pub no_longer : length new.cells ≤ max (length old.cells) (at + count)
  pub in_range : (k : ℕ) → at ≤ k → k < at + count → k < length new.cells → (get_or new.cells k (firm_cell 0)).loose ≡ true
  pub safe_length : new.safe ≡ old.safe

-- both areas after a write that failed
abbrev pub IsTorn : Area → ℕ → ℕ → Areas → Areas → Type 0
IsTorn area at count old new =
    Torn at count (extent_of old area) (extent_of new area) × (new ≡ replaced old area (extent_of new area))
