-- The set of the late nodes, as bits: a node is in it exactly where its watch is late.
use Rattle.std.proofs.Common.{inl, inr, ◌≡◌, ◌+◌, ◌-◌, ◌*◌, ◌/◌, ◌%◌, ◌^◌, ◌<◌, ◌≤◌, ℕ, zero, suc, arith, Bool, true, false, ◌&&◌, not, ◌==◌, cond, List, [], ◌∷◌, length, ap, sym, ◌∙◌, refl, eqb-true}
use Rattle.std.proofs.lemmas.Bool.{cases_lt, eq-eqb, ne_eqb}
use Rattle.std.proofs.lemmas.Nat.Bits.{bit_at-zero, bit_at-suc}
use Rattle.std.proofs.Math.Nat.{div-eq_of_lt}
use Rattle.std.proofs.lemmas.Grind.{common_steps}
use Rattle.std.specs.Int.{bit_at}
use Rattle.rr_types.specs.Nodes.{has_member, without_member}
use Rattle.rr_model.specs.NodeState.{Watch}
use Rattle.rr_model.specs.NodeDetector.{is_late, late_from, late_nodes}

-- a bit
abbrev pub bit : Bool → ℕ
bit b = cond b 1 0

-- the late nodes from number q on, as bits from 0 on
abbrev pub late_bits : ℕ → ℕ → List Watch → ℕ
late_bits p q [] = 0
late_bits p q (w ∷ ws) = bit (is_late w && not (q == p)) + 2 * late_bits p (q + 1) ws

scaled_bit : (b : Bool) (m c : ℕ) → cond b m 0 + m * (2 * c) ≡ m * (bit b + 2 * c)
scaled_bit true m c = grind arith
scaled_bit false m c = grind arith

double : (q : ℕ) → 2 ^ (q + 1) ≡ 2 ^ q * 2
double q = grind (arith, common_steps)

doubled : (q c : ℕ) → 2 ^ (q + 1) * c ≡ 2 ^ q * (2 * c)
doubled q c = rw (double q) (grind arith)

late_scaled : (p q : ℕ) (ws : List Watch) → late_from p q ws ≡ 2 ^ q * late_bits p q ws
late_scaled p q [] = grind arith
late_scaled p q (w ∷ ws) =
    let twice : 2 ^ (q + 1) * late_bits p (q + 1) ws ≡ 2 ^ q * (2 * late_bits p (q + 1) ws) = doubled q (late_bits p (q + 1) ws) in
    ap (λ x. cond (is_late w && not (q == p)) (2 ^ q) 0 + x) (late_scaled p (q + 1) ws ∙ twice) ∙ scaled_bit (is_late w && not (q == p)) (2 ^ q) (late_bits p (q + 1) ws)

-- the set of late nodes, as bits
pub late_is : (p : ℕ) (ws : List Watch) → late_nodes p ws ≡ late_bits p 0 ws
late_is p ws = late_scaled p 0 ws ∙ grind arith

lowest : (b : Bool) (c : ℕ) → has_member (bit b + 2 * c) 0 ≡ b
lowest true c = eq-eqb _ _ (omega arith)
lowest false c = ne_eqb _ _ (λ e. omega (arith, e))

half : (b : Bool) (c : ℕ) → (bit b + 2 * c) / 2 ≡ c
half true c = omega arith
half false c = omega arith

above : (b : Bool) (c k : ℕ) → has_member (bit b + 2 * c) (suc k) ≡ has_member c k
above b c k = ap (λ x. x == 1) (bit_at-suc (bit b + 2 * c) k ∙ ap (λ x. bit_at x k) (half b c))

-- whether the watch at a place is one of a late node beside p
abbrev pub late_there : ℕ → ℕ → List Watch → ℕ → Bool
late_there p q [] j = false
late_there p q (w ∷ ws) zero = is_late w && not (q == p)
late_there p q (w ∷ ws) (suc j) = late_there p (q + 1) ws j

-- the members are the late nodes
pub member_late : (p q : ℕ) (ws : List Watch) (j : ℕ) → has_member (late_bits p q ws) j ≡ late_there p q ws j
member_late p q [] j = ap (λ x. x == 1) (bit_at-zero j)
member_late p q (w ∷ ws) zero = lowest _ _
member_late p q (w ∷ ws) (suc j) = above _ _ j ∙ member_late p (q + 1) ws j

member_fits : (c k : ℕ) → has_member c k ≡ true → 2 ^ k ≤ c
member_fits c k m = elim (cases_lt c (2 ^ k)) [
  | inr l ↦ l
  | inl l ↦ absurd (let z : c / 2 ^ k ≡ 0 = div-eq_of_lt l in let o : c / 2 ^ k % 2 ≡ 1 = eqb-true _ _ m in omega (arith, z, o))
]

less : (b : Bool) (c k : ℕ) (t : Bool) → has_member c k ≡ t → cond t (bit b + 2 * c - 2 ^ suc k) (bit b + 2 * c) ≡ bit b + 2 * cond t (c - 2 ^ k) c
less b c k true m = let l : 2 ^ k ≤ c = member_fits c k m in let d : 2 ^ suc k ≡ 2 * 2 ^ k = grind arith in omega (arith, l, d)
less b c k false m = refl

without_above : (b : Bool) (c k : ℕ) → without_member (bit b + 2 * c) (suc k) ≡ bit b + 2 * without_member c k
without_above b c k = ap (λ t. cond t (bit b + 2 * c - 2 ^ suc k) (bit b + 2 * c)) (above b c k) ∙ less b c k (has_member c k) refl

without_lowest : (b : Bool) (c : ℕ) → without_member (bit b + 2 * c) 0 ≡ 2 * c
without_lowest b c = ap (λ t. cond t (bit b + 2 * c - 2 ^ 0) (bit b + 2 * c)) (lowest b c) ∙ at b
  where
    at : (b : Bool) → cond b (bit b + 2 * c - 2 ^ 0) (bit b + 2 * c) ≡ 2 * c
    at true = omega arith
    at false = omega arith

-- behind node p nobody is left out, and nobody has the number 7
behind : (p q : ℕ) (ws : List Watch) → p < q → q + length ws ≤ 7 → late_bits p q ws ≡ late_bits 7 q ws
behind p q [] l m = refl
behind p q (w ∷ ws) l m =
    let n : (q == p) ≡ false = ne_eqb q p (λ e. omega (arith, e)) in
    let o : (q == 7) ≡ false = ne_eqb q 7 (λ e. omega (arith, e)) in
    rw (n, o, behind p (q + 1) ws (omega arith) (omega arith)) refl

without_bits : (k q : ℕ) (ws : List Watch) → q + length ws ≤ 7 → late_bits (q + k) q ws ≡ without_member (late_bits 7 q ws) k
without_bits k q [] m = sym (ap (λ x. cond (x == 1) (0 - 2 ^ k) 0) (bit_at-zero k))
without_bits zero q (w ∷ ws) m =
    let same : (q == q + 0) ≡ true = eq-eqb q (q + 0) (omega arith) in
    let e : q + 0 ≡ q = omega arith in
    let rest : late_bits (q + 0) (q + 1) ws ≡ late_bits 7 (q + 1) ws = behind (q + 0) (q + 1) ws (omega arith) (omega arith) in
    rw (same, rest) (nobody (is_late w) (late_bits 7 (q + 1) ws)) ∙ sym (without_lowest (is_late w && not (q == 7)) (late_bits 7 (q + 1) ws))
  where
    nobody : (b : Bool) (c : ℕ) → bit (b && false) + 2 * c ≡ 2 * c
    nobody true c = omega arith
    nobody false c = omega arith
without_bits (suc k) q (w ∷ ws) m =
    let other : (q == q + suc k) ≡ false = ne_eqb q (q + suc k) (λ e. omega (arith, e)) in
    let seven : (q == 7) ≡ false = ne_eqb q 7 (λ e. omega (arith, e)) in
    let on : q + suc k ≡ q + 1 + k = omega arith in
    let rest : late_bits (q + suc k) (q + 1) ws ≡ without_member (late_bits 7 (q + 1) ws) k = ap (λ p. late_bits p (q + 1) ws) on ∙ without_bits k (q + 1) ws (omega arith) in
    rw (other, rest) (ap (λ b. bit (is_late w && not b) + 2 * without_member (late_bits 7 (q + 1) ws) k) (sym seven))
    ∙ sym (without_above (is_late w && not (q == 7)) (late_bits 7 (q + 1) ws) k)

-- a node disregards itself: the late nodes beside p
pub late_beside : (p : ℕ) (ws : List Watch) → length ws ≤ 7 → late_nodes p ws ≡ without_member (late_nodes 7 ws) p
late_beside p ws m = let z : p ≡ 0 + p = omega arith in
    late_is p ws ∙ ap (λ q. late_bits q 0 ws) z ∙ without_bits p 0 ws (omega arith) ∙ ap (λ x. without_member x p) (sym (late_is 7 ws))
