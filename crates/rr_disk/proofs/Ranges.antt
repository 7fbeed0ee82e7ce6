-- Bits, and ranges with gaps.
use Rattle.std.proofs.Common.{◌≡◌, ◌⊎◌, inl, inr, ℕ, ◌/◌, ◌%◌, ◌<◌, ◌≤◌, ◌≢◌, ◌==◌, false, List, length, get_or, set, ap, arith, get_or-set_same, get_or-set_other}
use Rattle.std.specs.Int.{bit_at}
use Rattle.std.proofs.lemmas.Bool.{cases_eq}
use Rattle.std.proofs.lemmas.Bool.Decides.{nat_tests}
use Rattle.rr_disk.specs.declared.loose.Loose.{Loose}
use Rattle.rr_disk.specs.Strips.{bit_of, is_loose}

module _ (bits : List ℕ) (k : ℕ) (within : k / 8 < length bits) where
  pub bit_here : (word : ℕ) → bit_of (set bits (k / 8) word) k ≡ (bit_at word (k % 8) == 1)
  bit_here word = ap (λ n. bit_at n (k % 8) == 1) (get_or-set_same bits (k / 8) word 0 within)

  pub bit_elsewhere : (word : ℕ) → ((i : ℕ) → i < 8 → i ≢ k % 8 → bit_at word i ≡ bit_at (get_or bits (k / 8) 0) i) → (j : ℕ) → (j < k) ⊎ (k < j) → bit_of (set bits (k / 8) word) j ≡ bit_of bits j
  bit_elsewhere word kept j apart =
      elim (cases_eq (j / 8) (k / 8)) [
        | inl same ↦ rw (same, get_or-set_same bits (k / 8) word 0 within) (ap (λ n. n == 1) (kept (j % 8) (omega arith) (λ index. differs same index apart)))
        | inr other ↦ ap (λ n. bit_at n (j % 8) == 1) (get_or-set_other bits (k / 8) (j / 8) word 0 other)
      ]
    where
      differs : j / 8 ≡ k / 8 → j % 8 ≡ k % 8 → (j < k) ⊎ (k < j) → ⊥
      differs same index (inl lt) = omega (arith, same, index, lt)
      differs same index (inr lt) = omega (arith, same, index, lt)

pub before_range : (loose : Loose) (j : ℕ) → j < loose.low → is_loose loose j ≡ false
before_range loose j lt = grind (arith, nat_tests)

pub after_range : (loose : Loose) (j : ℕ) → loose.high ≤ j → is_loose loose j ≡ false
after_range loose j le = grind (arith, nat_tests)
