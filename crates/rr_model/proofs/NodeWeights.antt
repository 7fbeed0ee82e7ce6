-- Sums of one number for each index: such a sum falls where one number falls, and is at most the count times a bound.
use Rattle.std.proofs.Common.{◌≡◌, ℕ, ◌+◌, ◌*◌, ◌≤◌, ◌<◌, inl, inr, zero, suc, refl, sym, subst, arith, le_refl}
use Rattle.std.proofs.lemmas.Bool.{cases_eq}
use Rattle.std.proofs.Math.Nat.{suc-mul}

-- the sum of a number for each index below n
pub total : (ℕ → ℕ) → ℕ → ℕ
total f zero = 0
total f (suc n) = f n + total f n

-- each number is at most c
pub total_below : (f : ℕ → ℕ) (c n : ℕ) → ((i : ℕ) → f i ≤ c) → total f n ≤ n * c
unfolding total
total_below f c zero l = omega arith
total_below f c (suc n) l =
    let ih : total f n ≤ n * c = total_below f c n l in
    let here : f n ≤ c = l n in
    let e : suc n * c ≡ n * c + c = suc-mul n c in
    omega arith

total_same : (f g : ℕ → ℕ) (n : ℕ) → ((j : ℕ) → j < n → g j ≡ f j) → total g n ≡ total f n
unfolding total
total_same f g zero s = refl
total_same f g (suc n) s =
    let ih : total g n ≡ total f n = total_same f g n (λ j l. s j (omega arith)) in
    let here : g n ≡ f n = s n (le_refl (suc n)) in
    omega arith

-- one number falls and the others stay
pub total_falls : (f g : ℕ → ℕ) (i n : ℕ) → i < n → g i < f i → ((j : ℕ) → (j ≡ i → ⊥) → g j ≡ f j) → total g n < total f n
unfolding total
total_falls f g i zero l d s = absurd (omega arith)
total_falls f g i (suc n) l d s = elim (cases_eq n i) [
  | inl e ↦
      let rest : total g n ≡ total f n = total_same f g n (λ j k. s j (λ x. omega arith)) in
      let here : g n < f n = subst (λ z. g z < f z) (sym e) d in
      omega arith
  | inr other ↦
      let ih : total g n < total f n = total_falls f g i n (below other) d s in
      let here : g n ≡ f n = s n other in
      omega arith
]
  where
    below : (n ≡ i → ⊥) → i < n
    below x = omega arith
