-- Sets of nodes as numbers: the empty set has no member, and a set with one more node has that node and those before.
use Rattle.std.proofs.Common.{◌≡◌, ℕ, ◌+◌, ◌-◌, ◌*◌, ◌/◌, ◌%◌, ◌^◌, ◌<◌, ◌⊎◌, inl, inr, suc, Bool, true, false, ◌==◌, if◌then◌else◌, refl, ap, sym, ◌∙◌, subst, arith, eqb-true, le_refl}
use Rattle.std.proofs.lemmas.Bool.{eqb-false, cases_order}
use Rattle.std.proofs.lemmas.Nat.Bits.{bit_at_cat_low, bit_at_cat_high, bit_at-zero, bit_at-suc, bit_at_lowest}
use Rattle.std.proofs.Math.Nat.{mul_comm}
use Rattle.std.proofs.lemmas.Nat.{pow_pos}
use Rattle.std.specs.Int.{bit_at}
use Rattle.rr_types.specs.Nodes.{has_member, with_member}

-- the empty set has no member
pub no_member_of_none : (q : ℕ) → has_member 0 q ≡ true → ⊥
no_member_of_none q m =
    let x : 0 / 2 ^ q % 2 ≡ 1 = eqb-true _ _ m in
    let y : 0 / 2 ^ q % 2 ≡ 0 = bit_at-zero q in
    omega arith

pub parts : (s m : ℕ) → 0 < m → (s / m) * m + s % m ≡ s
parts s m l = let c : m * (s / m) ≡ (s / m) * m = mul_comm m (s / m) in omega arith

more_parts : (s m : ℕ) → 0 < m → (s / m + 1) * m + s % m ≡ s + m
more_parts s m l =
    let c : (s / m + 1) * m ≡ (s / m) * m + m = mul_comm (s / m + 1) m ∙ grind arith in
    let d : (s / m) * m + s % m ≡ s = parts s m l in
    omega arith

next_odd : (x : ℕ) → (x % 2 ≡ 1 → ⊥) → (x + 1) % 2 ≡ 1
next_odd x z = omega arith

half : (c : ℕ) → (c % 2 ≡ 1 → ⊥) → (c + 1) / 2 ≡ c / 2
half c z = omega arith

-- the bits of s beside bit k, where bit k of s is 0, are those of s + 2 ^ k
pub bit_beside : (s k j : ℕ) → (s / 2 ^ k % 2 ≡ 1 → ⊥) → (j < k) ⊎ (k < j) → bit_at (s + 2 ^ k) j ≡ bit_at s j
bit_beside s k j z (inl l) =
    ap (λ x. bit_at x j) (sym (more_parts s (2 ^ k) (pow_pos k)))
    ∙ bit_at_cat_low (s / 2 ^ k + 1) k (s % 2 ^ k) j l
    ∙ sym (bit_at_cat_low (s / 2 ^ k) k (s % 2 ^ k) j l)
    ∙ ap (λ x. bit_at x j) (parts s (2 ^ k) (pow_pos k))
bit_beside s k j z (inr l) =
    let p : 0 < 2 ^ k = pow_pos k in
    let b : s % 2 ^ k < 2 ^ k = omega arith in
    let e : j - k ≡ suc (j - k - 1) = omega arith in
    ap (λ x. bit_at x j) (sym (more_parts s (2 ^ k) p))
    ∙ bit_at_cat_high (s / 2 ^ k + 1) k (s % 2 ^ k) j b (omega arith)
    ∙ ap (bit_at (s / 2 ^ k + 1)) e
    ∙ bit_at-suc (s / 2 ^ k + 1) (j - k - 1)
    ∙ ap (λ x. bit_at x (j - k - 1)) (half (s / 2 ^ k) z)
    ∙ sym (bit_at-suc (s / 2 ^ k) (j - k - 1))
    ∙ sym (ap (bit_at (s / 2 ^ k)) e)
    ∙ sym (bit_at_cat_high (s / 2 ^ k) k (s % 2 ^ k) j b (omega arith))
    ∙ ap (λ x. bit_at x j) (parts s (2 ^ k) p)

-- bit k of s + 2 ^ k, where that of s is 0
pub bit_own : (s k : ℕ) → (s / 2 ^ k % 2 ≡ 1 → ⊥) → bit_at (s + 2 ^ k) k ≡ 1
bit_own s k z =
    let p : 0 < 2 ^ k = pow_pos k in
    let b : s % 2 ^ k < 2 ^ k = omega arith in
    let e : k - k ≡ 0 = omega arith in
    let odd : (s / 2 ^ k + 1) % 2 ≡ 1 = next_odd (s / 2 ^ k) z in
    ap (λ x. bit_at x k) (sym (more_parts s (2 ^ k) p))
    ∙ bit_at_cat_high (s / 2 ^ k + 1) k (s % 2 ^ k) k b (le_refl k)
    ∙ ap (bit_at (s / 2 ^ k + 1)) e
    ∙ bit_at_lowest (s / 2 ^ k + 1)
    ∙ odd

member_cases : (s q j : ℕ) (t : Bool) → has_member s q ≡ t → has_member (if t then s else s + 2 ^ q) j ≡ true → (j ≡ q) ⊎ (has_member s j ≡ true)
member_cases s q j true e m = inr m
member_cases s q j false e m = elim (cases_order j q) [
  | inl x ↦ inl x
  | inr o ↦ inr (subst (λ z. (z == 1) ≡ true) (bit_beside s q j (eqb-false _ _ e) o) m)
]

-- a member of a set with one more node is this node, or was a member
pub member_of_with : (s q j : ℕ) → has_member (with_member s q) j ≡ true → (j ≡ q) ⊎ (has_member s j ≡ true)
member_of_with s q j m = member_cases s q j (has_member s q) refl m
