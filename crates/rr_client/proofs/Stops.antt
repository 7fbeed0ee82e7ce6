-- Which nodes are stopped so far.
use Rattle.std.proofs.Common.{◌≡◌, ℕ, ◌+◌, ◌<◌, Bool, true, false, if◌then◌else◌, inl, inr, refl, sym, ◌∙◌, subst, arith}
use Rattle.std.specs.Prelude.{◌⊎◌}
use Rattle.std.proofs.lemmas.Bool.{true≢false}
use Rattle.std.proofs.Math.Nat.{eq-or-lt_of_le}
use Rattle.rr_types.specs.Nodes.{has_member, with_member}
use Rattle.rr_model.proofs.NodeBits.{no_member_of_none, member_of_with}
use Rattle.rr_model.proofs.NodeCounts.{still_member, new_member}
use Rattle.rr_client.specs.Seating.{AreStopped}

pub none_stopped : (without : ℕ) → AreStopped 0 without 0
none_stopped without = (λ p low has. absurd (omega (low, arith)), λ p has. absurd (no_member_of_none p has))

-- one more node, of which the set is told
one_stopped : (n without stopped : ℕ) → AreStopped n without stopped → has_member without n ≡ true → AreStopped (n + 1) without (with_member stopped n)
one_stopped n without stopped so is = (
  λ p low has. elim (below p n low) [
    | inl same ↦ subst (λ q. has_member (with_member stopped n) q ≡ true) (sym same) (new_member stopped n)
    | inr less ↦ still_member stopped n p (so.0 p less has)
  ],
  λ p has. elim (member_of_with stopped n p has) [
    | inl same ↦ subst (λ q. has_member without q ≡ true) (sym same) is
    | inr old ↦ so.1 p old
  ],
)
  where
    below : (p n : ℕ) → p < n + 1 → (p ≡ n) ⊎ (p < n)
    below p n low = elim (eq-or-lt_of_le (omega (low, arith))) [
      | inl same ↦ inl same
      | inr less ↦ inr less
    ]

-- one more node, which isn't in the set
none_more : (n without stopped : ℕ) → AreStopped n without stopped → has_member without n ≡ false → AreStopped (n + 1) without stopped
none_more n without stopped so is = (
  λ p low has. elim (below p n low) [
    | inl same ↦ absurd (true≢false (sym has ∙ (subst (λ q. has_member without q ≡ false) (sym same) is)))
    | inr less ↦ so.0 p less has
  ],
  so.1,
)
  where
    below : (p n : ℕ) → p < n + 1 → (p ≡ n) ⊎ (p < n)
    below p n low = elim (eq-or-lt_of_le (omega (low, arith))) [
      | inl same ↦ inl same
      | inr less ↦ inr less
    ]

-- one more node, of which the set is told if it is left out
pub one_more : (n without stopped : ℕ) → AreStopped n without stopped → AreStopped (n + 1) without (if has_member without n then with_member stopped n else stopped)
one_more n without stopped so = go (has_member without n) refl
  where
    go : (is : Bool) → has_member without n ≡ is → AreStopped (n + 1) without (if is then with_member stopped n else stopped)
    go true has = one_stopped n without stopped so has
    go false lacks = none_more n without stopped so lacks
