-- Counts of device calls and of faults, which stop at the greatest number of 64 bits.
use Rattle.std.specs.Prelude.{◌≡◌, ◌⊎◌, ℕ, ◌+◌, ◌-◌, ◌^◌, ◌<◌, min}

-- a count after one more
abbrev pub counted : ℕ → ℕ
counted n = min (n + 1) (2 ^ 64 - 1)

-- a count that rose, or stands at its end
abbrev pub Grew : ℕ → ℕ → Type 0
Grew old new = (old < new) ⊎ (new ≡ 2 ^ 64 - 1)
