-- Adding a node to a set of nodes, or removing it, changes that bit and no other.
use Rattle.std.proofs.Common.{◌≡◌, ◌≢◌, ℕ, ◌+◌, ◌-◌, ◌*◌, ◌/◌, ◌%◌, ◌^◌, ◌<◌, ◌≤◌, inl, inr, zero, suc, Bool, true, false, ◌==◌, nat_lt, ◌&&◌, ◌||◌, not, cond, if◌then◌else◌, refl, ap, sym, ◌∙◌, arith, eqb-true}
use Rattle.std.proofs.lemmas.Bool.{ltb-true, ltb-false, lt-ltb, le-ltb, cases_order, eqb-false}
use Rattle.std.proofs.lemmas.Nat.Bits.{bit_at_cat_low, bit_at_cat_high, bit_at-suc, bit_at_lowest}
use Rattle.std.proofs.lemmas.Nat.{pow_pos}
use Rattle.std.proofs.Math.Nat.{mul_comm}
use Rattle.std.specs.Int.{bit_at}
use Rattle.rr_types.specs.Nodes.{has_member, with_member}
use Rattle.rr_model.specs.NodeDetector.{reduced}
use Rattle.rr_types.specs.Nodes.{joined, joined_below}

parts : (s m : ℕ) → 0 < m → (s / m) * m + s % m ≡ s
parts s m l = let c : m * (s / m) ≡ (s / m) * m = mul_comm m (s / m) in omega arith

-- numbers whose upper parts differ in the lowest bit alone have the other bits in common
beside : (x y k r j : ℕ) → r < 2 ^ k → x / 2 ≡ y / 2 → j ≢ k → bit_at (x * 2 ^ k + r) j ≡ bit_at (y * 2 ^ k + r) j
beside x y k r j b h n = elim (cases_order j k) [
  | inl e ↦ absurd (n e)
  | inr o ↦ elim o [
    | inl l ↦ bit_at_cat_low x k r j l ∙ sym (bit_at_cat_low y k r j l)
    | inr l ↦
        (let e : j - k ≡ suc (j - k - 1) = omega arith in
        bit_at_cat_high x k r j b (omega arith) ∙ ap (bit_at x) e ∙ bit_at-suc x (j - k - 1) ∙ ap (λ z. bit_at z (j - k - 1)) h
        ∙ sym (bit_at-suc y (j - k - 1)) ∙ sym (ap (bit_at y) e) ∙ sym (bit_at_cat_high y k r j b (omega arith)))
  ]
]

-- the bit itself is the lowest one of the upper part
itself : (x k r : ℕ) → r < 2 ^ k → bit_at (x * 2 ^ k + r) k ≡ x % 2
itself x k r b =
    let z : k - k ≡ 0 = omega arith in
    bit_at_cat_high x k r k b (omega arith) ∙ ap (bit_at x) z ∙ bit_at_lowest x

has_of : (s j b : ℕ) → bit_at s j ≡ b → has_member s j ≡ (b == 1)
has_of s j b e = ap (λ z. z == 1) e

-- the parts of a set above and below node k
above : ℕ → ℕ → ℕ
above s k = s / 2 ^ k

grown : (s k : ℕ) → s + 2 ^ k ≡ (s / 2 ^ k + 1) * 2 ^ k + s % 2 ^ k
grown s k =
    let c : (s / 2 ^ k + 1) * 2 ^ k ≡ (s / 2 ^ k) * 2 ^ k + 2 ^ k = grind arith in
    let d : (s / 2 ^ k) * 2 ^ k + s % 2 ^ k ≡ s = parts s (2 ^ k) (pow_pos k) in
    omega (arith, c, d)

shrunk : (s k x : ℕ) → s / 2 ^ k ≡ x + 1 → s - 2 ^ k ≡ x * 2 ^ k + s % 2 ^ k
shrunk s k x e =
    let c : (x + 1) * 2 ^ k ≡ x * 2 ^ k + 2 ^ k = grind arith in
    let d : (s / 2 ^ k) * 2 ^ k + s % 2 ^ k ≡ s = parts s (2 ^ k) (pow_pos k) in
    let f : (s / 2 ^ k) * 2 ^ k ≡ (x + 1) * 2 ^ k = ap (λ y. y * 2 ^ k) e in
    omega (arith, c, d, f)

below : (s k : ℕ) → s % 2 ^ k < 2 ^ k
below s k = let p : 0 < 2 ^ k = pow_pos k in omega arith

whole : (s k : ℕ) → (s / 2 ^ k) * 2 ^ k + s % 2 ^ k ≡ s
whole s k = parts s (2 ^ k) (pow_pos k)

-- node k joins the set
with_itself : (s k : ℕ) (t : Bool) → has_member s k ≡ t → has_member (cond t s (s + 2 ^ k)) k ≡ true
with_itself s k true h = h
with_itself s k false h =
    let z : s / 2 ^ k % 2 ≢ 1 = eqb-false _ _ h in
    let o : (s / 2 ^ k + 1) % 2 ≡ 1 = omega (arith, z) in
    ap (λ x. has_member x k) (grown s k) ∙ ap (λ z. z == 1) (itself (s / 2 ^ k + 1) k (s % 2 ^ k) (below s k) ∙ o)

with_beside : (s k j : ℕ) (t : Bool) → has_member s k ≡ t → j ≢ k → has_member (cond t s (s + 2 ^ k)) j ≡ has_member s j
with_beside s k j true h n = refl
with_beside s k j false h n =
    let z : s / 2 ^ k % 2 ≢ 1 = eqb-false _ _ h in
    let o : (s / 2 ^ k + 1) / 2 ≡ s / 2 ^ k / 2 = omega (arith, z) in
    ap (λ x. has_member x j) (grown s k) ∙ ap (λ z. z == 1) (beside (s / 2 ^ k + 1) (s / 2 ^ k) k (s % 2 ^ k) j (below s k) o n) ∙ ap (λ x. has_member x j) (whole s k)

-- node k leaves it
without_itself : (s k : ℕ) (t : Bool) → has_member s k ≡ t → has_member (cond t (s - 2 ^ k) s) k ≡ false
without_itself s k false h = h
without_itself s k true h =
    let z : s / 2 ^ k % 2 ≡ 1 = eqb-true _ _ h in
    let x : s / 2 ^ k ≡ s / 2 ^ k - 1 + 1 = omega (arith, z) in
    let o : (s / 2 ^ k - 1) % 2 ≡ 0 = omega (arith, z) in
    ap (λ y. has_member y k) (shrunk s k (s / 2 ^ k - 1) x) ∙ ap (λ z. z == 1) (itself (s / 2 ^ k - 1) k (s % 2 ^ k) (below s k) ∙ o)

without_beside : (s k j : ℕ) (t : Bool) → has_member s k ≡ t → j ≢ k → has_member (cond t (s - 2 ^ k) s) j ≡ has_member s j
without_beside s k j false h n = refl
without_beside s k j true h n =
    let z : s / 2 ^ k % 2 ≡ 1 = eqb-true _ _ h in
    let x : s / 2 ^ k ≡ s / 2 ^ k - 1 + 1 = omega (arith, z) in
    let o : (s / 2 ^ k - 1) / 2 ≡ s / 2 ^ k / 2 = omega (arith, z) in
    ap (λ y. has_member y j) (shrunk s k (s / 2 ^ k - 1) x) ∙ ap (λ z. z == 1) (beside (s / 2 ^ k - 1) (s / 2 ^ k) k (s % 2 ^ k) j (below s k) o n) ∙ ap (λ x. has_member x j) (whole s k)

or_true : (x : Bool) → (x || true) ≡ true
or_true true = refl
or_true false = refl

or_false : (x : Bool) → (x || false) ≡ x
or_false true = refl
or_false false = refl

put_itself : (a b k : ℕ) (t : Bool) → has_member b k ≡ t → (has_member (cond t (with_member a k) a) k || false) ≡ (has_member a k || t)
put_itself a b k true h = or_false _ ∙ with_itself a k (has_member a k) refl ∙ sym (or_true (has_member a k))
put_itself a b k false h = refl

put_beside : (a k c : ℕ) (t : Bool) → c ≢ k → has_member (cond t (with_member a k) a) c ≡ has_member a c
put_beside a k c true n = with_beside a k c (has_member a k) refl n
put_beside a k c false n = refl

-- two sets together
joined_has : (k a b c : ℕ) → has_member (joined_below k a b) c ≡ (has_member a c || (nat_lt c k && has_member b c))
joined_has zero a b c =
    let l : nat_lt c 0 ≡ false = le-ltb c 0 (omega arith) in
    sym (or_false (has_member a c)) ∙ ap (λ t. has_member a c || (t && has_member b c)) (sym l)
joined_has (suc k) a b c = go (c == k) refl (joined_has k (cond (has_member b k) (with_member a k) a) b c)
  where
    go : (e : Bool) → (c == k) ≡ e
        → has_member (joined_below k (cond (has_member b k) (with_member a k) a) b) c ≡ (has_member (cond (has_member b k) (with_member a k) a) c || (nat_lt c k && has_member b c))
        → has_member (joined_below k (cond (has_member b k) (with_member a k) a) b) c ≡ (has_member a c || (nat_lt c (suc k) && has_member b c))
    go true e h =
        let q : c ≡ k = eqb-true _ _ e in
        let l : nat_lt c k ≡ false = le-ltb c k (omega (arith, q)) in
        let m : nat_lt c (suc k) ≡ true = lt-ltb c (suc k) (omega (arith, q)) in
        h
        ∙ ap (λ t. has_member (cond (has_member b k) (with_member a k) a) c || (t && has_member b c)) l
        ∙ ap (λ x. has_member (cond (has_member b k) (with_member a k) a) x || false) q
        ∙ put_itself a b k (has_member b k) refl
        ∙ ap (λ x. has_member a x || has_member b x) (sym q)
        ∙ ap (λ t. has_member a c || (t && has_member b c)) (sym m)
    go false e h =
        let n : c ≢ k = eqb-false _ _ e in
        let l : nat_lt c k ≡ nat_lt c (suc k) = later (nat_lt c k) refl n in
        h ∙ ap (λ t. t || (nat_lt c k && has_member b c)) (put_beside a k c (has_member b k) n) ∙ ap (λ t. has_member a c || (t && has_member b c)) l
      where
        later : (t : Bool) → nat_lt c k ≡ t → c ≢ k → t ≡ nat_lt c (suc k)
        later true h n = let l : c < k = ltb-true _ _ h in sym (lt-ltb c (suc k) (omega arith))
        later false h n = let l : k ≤ c = ltb-false _ _ h in sym (le-ltb c (suc k) (omega (arith, n, l)))

seven : (o s c : ℕ) → c < 7 → has_member (joined o s) c ≡ (has_member o c || has_member s c)
unfolding joined
seven o s c l = joined_has 7 o s c ∙ ap (λ t. has_member o c || (t && has_member s c)) (lt-ltb c 7 l)

-- the members after a receipt
pub reduced_has : (o q s c : ℕ) → c < 7 → has_member (reduced o q s) c ≡ (not (c == q) && (has_member o c || has_member s c))
reduced_has o q s c l = at (c == q) refl
  where
    at : (b : Bool) → (c == q) ≡ b → has_member (reduced o q s) c ≡ (not b && (has_member o c || has_member s c))
    at true e = ap (has_member (reduced o q s)) (eqb-true _ _ e) ∙ without_itself (joined o s) q (has_member (joined o s) q) refl
    at false e = without_beside (joined o s) q c (has_member (joined o s) q) refl (eqb-false _ _ e) ∙ seven o s c l
