-- What an area in memory keeps of itself, and the cells that it stands for.
use Rattle.std.specs.Prelude.{◌+◌, ◌*◌, ◌/◌, ◌%◌, ◌<◌, ◌≤◌, ℕ, Bool, ◌&&◌, ◌||◌, ◌==◌, not, nat_lt, nat_le, List, [], ◌∷◌, length, get_or, All}
use Rattle.std.specs.Int.{bit_at}
use Rattle.rr_disk.specs.declared.cell.Cell.{Cell}
use Rattle.rr_disk.specs.declared.loose.Loose.{Loose}

-- the bit with this number of a row of bytes
abbrev pub bit_of : List ℕ → ℕ → Bool
bit_of bits k = bit_at (get_or bits (k / 8) 0) (k % 8) == 1

-- whether the byte at a place is loose: it lies in the range and, where that has gaps, its bit is set
abbrev pub is_loose : Loose → ℕ → Bool
is_loose loose k = nat_le loose.low k && nat_lt k loose.high && (not loose.gaps || bit_of loose.bits.items k)

-- there is a bit for each byte of the range
pub record IsRanged (loose : Loose) : Type 0 where
  pub in_order : loose.low ≤ loose.high
  pub has_bits : loose.high ≤ 8 * length loose.bits.items

-- the cells of these bytes, the first of which stands at place k
abbrev pub cells_from : (ℕ → Bool) → ℕ → List ℕ → List Cell
cells_from loose k [] = []
cells_from loose k (b ∷ bytes) = record { byte = b; loose = loose k } ∷ cells_from loose (k + 1) bytes

-- what is loose and what is safe is there, there is room for a bit of each byte, and each byte is one
pub record IsStrip (bytes : List ℕ) (safe : ℕ) (loose : Loose) : Type 0 where
  pub safe_there : safe ≤ length bytes
  pub ranged : IsRanged loose
  pub high_there : loose.high ≤ length bytes
  pub room : length bytes ≤ 8 * length loose.bits.items
  pub bytes_fit : All (λ b. b < 256) bytes
