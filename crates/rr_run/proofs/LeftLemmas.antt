-- Lists of nodes that are left out.
use Rattle.std.proofs.Common.{◌≡◌, ◌∙◌, ◌⊎◌, ◌<◌, ◌≤◌, ◌+◌, ◌-◌, ℕ, true, List, [], ◌∷◌, Option, Some, length, take, drop, slice_index_or, inl, inr, arith, ap, subst}
use Rattle.std.proofs.lemmas.Bool.{cases_lt}
use Rattle.std.proofs.lemmas.List.{take_rest}
use Rattle.rr_types.specs.Nodes.{has_member}
use Rattle.rr_run.specs.LeavingOut.{named_beside, named_from, AreLeftOutBelow}

-- a list goes on behind its first node and a comma
pub goes_on : (n set more : ℕ) (list : List ℕ) (named : Option ℕ) → 2 ≤ length list → slice_index_or list 1 0 ≡ 44
    → named_beside n set (slice_index_or list 0 0 ∷ []) ≡ Some more → named ≡ named_from n more (take (length list - 2) (drop 2 list))
    → named ≡ named_from n set list
goes_on n set more [] named two comma first rest = absurd (omega arith)
goes_on n set more (digit ∷ []) named two comma first rest = absurd (omega arith)
goes_on n set more (digit ∷ (sign ∷ list)) named two comma first rest =
    rw (comma, first) (rest ∙ ap (named_from n more) (take_rest (digit ∷ (sign ∷ list)) 2))

-- one more node is left out
pub one_more : (k left : ℕ) → AreLeftOutBelow k left → has_member left k ≡ true → AreLeftOutBelow (k + 1) left
one_more k left before this q less = by (cases_lt q k)
  where
    by : (q < k) ⊎ (k ≤ q) → has_member left q ≡ true
    by (inl lower) = before q lower
    by (inr now) =
        let same : k ≡ q = omega (arith, less, now) in
        subst (λ (x : ℕ). has_member left x ≡ true) same this
