-- Rows: the lowest undecided instances one by one.
use Rattle.std.proofs.Common.{◌≡◌, ℕ, zero, suc, ◌+◌, ◌-◌, ◌<◌, ◌≤◌, true, false, cond, ltb, List, [], ◌∷◌, ◌++◌, refl, ◌∙◌, arith, append_assoc, append-nil}
use Rattle.std.proofs.lemmas.Bool.{lt-ltb, le-ltb}
use Rattle.rr_model.specs.NodeState.{Row, undecided_from, lowest_undecided}

-- one more of the lowest undecided instances
pub lowest_more : (n i : ℕ) (rows : List Row) → 0 < n → lowest_undecided n i rows ≡ cond (ltb (undecided_from i rows) 1048576) (undecided_from i rows ∷ lowest_undecided (n - 1) (undecided_from i rows + 1) rows) []
lowest_more zero i rows h = absurd (omega arith)
lowest_more (suc n) i rows h = let e : suc n - 1 ≡ n = omega arith in rw e

-- the same at a turn of a loop over n turns
pub lowest_next : (n turn from : ℕ) (rows : List Row) → turn < n → undecided_from from rows < 1048576 → lowest_undecided (n - turn) from rows ≡ undecided_from from rows ∷ lowest_undecided (n - (turn + 1)) (undecided_from from rows + 1) rows
lowest_next n turn from rows h l =
    let e : n - turn - 1 ≡ n - (turn + 1) = omega arith in
    let t : ltb (undecided_from from rows) 1048576 ≡ true = lt-ltb _ _ l in
    lowest_more (n - turn) from rows (omega arith) ∙ rw (t, e)

pub lowest_end : (n from : ℕ) (rows : List Row) → 1048576 ≤ undecided_from from rows → lowest_undecided n from rows ≡ []
lowest_end zero from rows l = refl
lowest_end (suc n) from rows l = let t : ltb (undecided_from from rows) 1048576 ≡ false = le-ltb _ _ l in rw t

-- nothing more comes behind what was found
pub lowest_done : (found : List ℕ) (n from : ℕ) (rows : List Row) → 1048576 ≤ undecided_from from rows → found ++ lowest_undecided n from rows ≡ found
lowest_done found n from rows l = rw (lowest_end n from rows l) (append-nil found)

-- one more element, in front of the rest
pub push_next : {X : Type 0} (xs ys : List X) (y : X) → (xs ++ y ∷ []) ++ ys ≡ xs ++ y ∷ ys
push_next xs ys y = append_assoc xs (y ∷ []) ys
