-- What a crash may leave of a disk, and what a crash with given cuts and fill leaves.
use Rattle.std.specs.Prelude.{◌≡◌, ℕ, ◌+◌, ◌%◌, ◌<◌, ◌≤◌, min, max, false, List, [], ◌∷◌, length, get_or, take, All, if◌then◌else◌}
use Rattle.rr_disk.specs.declared.cell.Cell.{Cell}
use Rattle.rr_disk.specs.Areas.{Extent, Areas, at_rest}

-- these bytes stand in the first of these cells: each its cell's own, unless that is loose
abbrev pub Agrees : List Cell → List ℕ → Type 0
Agrees cells [] = Unit {0}
Agrees [] (b ∷ image) = ⊥
Agrees (cell ∷ cells) (b ∷ image) = (b < 256) × (cell.loose ≡ false → b ≡ cell.byte) × Agrees cells image

-- a crash may leave these bytes of an area: no fewer than are safe, and no other byte where nothing is loose
pub record MayLeave (extent : Extent) (image : List ℕ) : Type 0 where
  pub no_shorter : extent.safe ≤ length image
  pub agrees : Agrees extent.cells image

-- what is left of both areas
pub record Images : Type 0 where
  pub of_first : List ℕ
  pub of_second : List ℕ

-- a crash may leave these images of a disk
pub record IsCrashImage (both : Areas) (images : Images) : Type 0 where
  pub may_first : MayLeave both.first images.of_first
  pub may_second : MayLeave both.second images.of_second

-- both areas after a crash that left these images
abbrev pub restarted : Images → Areas
restarted images = record { first = at_rest images.of_first; second = at_rest images.of_second }

-- a cut brought into the range from the safe to the present length
abbrev pub clamped : ℕ → Extent → ℕ
clamped cut extent = max extent.safe (min cut (length extent.cells))

-- how many of the cells are loose
abbrev pub loose_count : List Cell → ℕ
loose_count [] = 0
loose_count (cell ∷ cells) = if cell.loose then loose_count cells + 1 else loose_count cells

-- the k-th byte of a fill that is repeated; of an empty one the byte that stands there
abbrev pub filled : List ℕ → ℕ → ℕ → ℕ
filled [] k own = own
filled (b ∷ fill) k own = get_or (b ∷ fill) (k % length (b ∷ fill)) 0

-- the bytes that these cells are left with, where k loose ones were filled before them
abbrev pub left_of : List ℕ → ℕ → List Cell → List ℕ
left_of fill k [] = []
left_of fill k (cell ∷ cells) =
    if cell.loose then filled fill k cell.byte ∷ left_of fill (k + 1) cells else cell.byte ∷ left_of fill k cells

-- the images that a crash leaves: each area is cut, and the loose cells below take the bytes of the fill in turn
abbrev pub crash_images : ℕ → ℕ → List ℕ → Areas → Images
crash_images cut_first cut_second fill both =
    let kept_first = take (clamped cut_first both.first) both.first.cells in
    let kept_second = take (clamped cut_second both.second) both.second.cells in
    record { of_first = left_of fill 0 kept_first; of_second = left_of fill (loose_count kept_first) kept_second }

-- some cuts, no further than the present lengths, and some fill name these images
abbrev pub IsNamed : Areas → Images → Type 0
IsNamed both images =
    (cut_first : ℕ) × (cut_second : ℕ) × (fill : List ℕ) × (cut_first ≤ length both.first.cells)
    × (cut_second ≤ length both.second.cells) × All (λ b. b < 256) fill
    × (crash_images cut_first cut_second fill both ≡ images)
