use Rattle.std.proofs.Common.{◌≡◌, ℕ, ◌<◌, ◌≤◌, ◌⊎◌, max, vec_len}
use Rattle.rr_disk.specs.Strips.{bit_of}
use Rattle.rr_disk.proofs.loose.put_bits.Given as goal

abbrev pub invariant-loop-k : goal.invariant-loop-k
invariant-loop-k l =
    ((j : ℕ) → l.from ≤ j → j < l.k → bit_of l.bits.items j ≡ l.on)
    × ((j : ℕ) → (j < l.from) ⊎ (l.k ≤ j) → bit_of l.bits.items j ≡ bit_of l.initial.bits.items j)
    × (vec_len l.bits ≡ vec_len l.initial.bits)
    × (l.k ≤ max l.from l.to)
