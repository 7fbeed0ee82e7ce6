-- Bells that stand at their nodes' places.
use Rattle.std.proofs.Common.{◌≡◌, ◌∙◌, ◌<◌, ◌++◌, ◌∷◌, [], ◌+◌, ℕ, zero, suc, List, sym, ap, arith}
use Rattle.std.specs.Prelude.{map}
use Rattle.std.specs.List.{range_with_len}
use Rattle.std.proofs.Math.ListN.{get_or, get_or-map}
use Rattle.std.proofs.lemmas.List.FromFn.{get_or-range_with_len}
use Rattle.rr_turn.specs.declared.bells.Bell.{Bell}
use Rattle.rr_turn.proofs.Sends.{map_more}

-- the bell at a place is that node's
pub at_place : (bells : List Bell) (i : ℕ) (b : Bell) → map (λ b. b.node) bells ≡ range_with_len 0 7 → i < 7 → b ≡ get_or bells i b → b.node ≡ i
at_place bells i b row within is =
    let same : 0 + i ≡ i = omega arith in
    ap (λ (b : Bell). b.node) is ∙ sym (get_or-map (λ (b : Bell). b.node) bells i b) ∙ ap (λ ns. get_or ns i b.node) row ∙ get_or-range_with_len 0 7 i b.node within ∙ same

range_more : (a n : ℕ) → range_with_len a (suc n) ≡ range_with_len a n ++ (a + n) ∷ []
range_more a zero = let e : a ≡ a + 0 = omega arith in ap (λ k. k ∷ []) e
range_more a (suc n) = let e : (a + 1) + n ≡ a + suc n = omega arith in ap (λ l. a ∷ l) (range_more (a + 1) n ∙ ap (λ k. range_with_len (a + 1) n ++ k ∷ []) e)

-- the row of one node more
range_next : (n : ℕ) → range_with_len 0 (n + 1) ≡ range_with_len 0 n ++ n ∷ []
range_next n =
    let more : n + 1 ≡ suc n = omega arith in
    let same : 0 + n ≡ n = omega arith in
    ap (λ k. range_with_len 0 k) more ∙ range_more 0 n ∙ ap (λ k. range_with_len 0 n ++ k ∷ []) same

-- one more bell, of the next node
pub one_more : (bells : List Bell) (n k : ℕ) (b : Bell) → map (λ b. b.node) bells ≡ range_with_len 0 n → k ≡ n → b.node ≡ k → map (λ b. b.node) (bells ++ b ∷ []) ≡ range_with_len 0 (n + 1)
one_more bells n k b row same is =
    map_more (λ (b : Bell). b.node) bells b ∙ ap (λ ns. ns ++ b.node ∷ []) row ∙ ap (λ k. range_with_len 0 n ++ k ∷ []) (is ∙ same) ∙ sym (range_next n)
