-- The loops over votes put one where its sender belongs, and find the best one.
use Rattle.std.proofs.Common.{◌≡◌, ◌+◌, ◌<◌, ◌≤◌, ℕ, Some, if◌then◌else◌, arith, Bool, true, false, ltb, eqb, cond, List, [], ◌∷◌, ◌++◌, length, get_or, take, drop, ap, sym, ◌∙◌, refl, append_assoc}
use Rattle.std.specs.List.{insert}
use Rattle.std.proofs.lemmas.List.{drop_all, drop_more, take-append-drop, take_more}
use Rattle.std.proofs.lemmas.Bool.{lt-ltb, le-ltb, lt-leb, ne_eqb, eq-eqb}
use Rattle.std.specs.Prelude.{filter, zero, suc, ◌^◌}
use Rattle.std.specs.List.{range_with_len}
use Rattle.std.proofs.lemmas.List.{at_drop_more, map-id, length-append}
use Rattle.std.proofs.lemmas.List.Elements.{filter-append}
use Rattle.std.proofs.lemmas.List.FromFn.{map-range_with_len_more}
use Rattle.std.proofs.Math.Nat.{zero-div}
use Rattle.rr_types.specs.Nodes.{has_member, joined, joined_below}
use Rattle.rr_state.specs.Majorities.{has_majority}
use Rattle.rr_model.specs.NodeDue.{better, best_vote}
use Rattle.rr_model.specs.NodeState.{Vote}
use Rattle.rr_model.specs.NodeStep.{with_vote}

-- the front of the votes lies below the new one
abbrev pub IsPassed : Vote → List Vote → ℕ → Type 0
IsPassed v ws k = with_vote v ws ≡ take k ws ++ with_vote v (drop k ws)

-- its sender has a vote
pub vote_there : (v : Vote) (ws : List Vote) (k : ℕ) (w : Vote) → k < length ws → w ≡ get_or ws k w → v.sender ≡ w.sender → IsPassed v ws k → with_vote v ws ≡ ws
vote_there v ws k w l g e p =
    let at : drop k ws ≡ w ∷ drop (k + 1) ws = drop_more ws k w l ∙ ap (λ (x : Vote). x ∷ drop (k + 1) ws) (sym g) in
    let not_less : ltb v.sender w.sender ≡ false = le-ltb _ _ (omega (arith, e)) in
    let same : eqb v.sender w.sender ≡ true = eq-eqb _ _ e in
    let kept : with_vote v (w ∷ drop (k + 1) ws) ≡ w ∷ drop (k + 1) ws = rw (not_less, same) refl in
    p ∙ ap (λ (r : List Vote). take k ws ++ with_vote v r) at ∙ ap (λ (r : List Vote). take k ws ++ r) (kept ∙ sym at) ∙ take-append-drop k ws

-- it goes before a vote of a higher sender
pub vote_before : (v : Vote) (ws : List Vote) (k : ℕ) (w : Vote) → k < length ws → w ≡ get_or ws k w → v.sender < w.sender → IsPassed v ws k → with_vote v ws ≡ insert ws k v
vote_before v ws k w l g e p =
    let at : drop k ws ≡ w ∷ drop (k + 1) ws = drop_more ws k w l ∙ ap (λ (x : Vote). x ∷ drop (k + 1) ws) (sym g) in
    let less : ltb v.sender w.sender ≡ true = lt-ltb _ _ e in
    let put : with_vote v (w ∷ drop (k + 1) ws) ≡ v ∷ w ∷ drop (k + 1) ws = rw less refl in
    p ∙ ap (λ (r : List Vote). take k ws ++ with_vote v r) at ∙ ap (λ (r : List Vote). take k ws ++ r) (put ∙ ap (λ (r : List Vote). v ∷ r) (sym at))

-- it goes behind a vote of a lower sender
pub vote_behind : (v : Vote) (ws : List Vote) (k : ℕ) (w : Vote) → k < length ws → w ≡ get_or ws k w → w.sender < v.sender → IsPassed v ws k → IsPassed v ws (k + 1)
vote_behind v ws k w l g e p =
    let at : drop k ws ≡ w ∷ drop (k + 1) ws = drop_more ws k w l ∙ ap (λ (x : Vote). x ∷ drop (k + 1) ws) (sym g) in
    let not_less : ltb v.sender w.sender ≡ false = le-ltb _ _ (omega arith) in
    let other : eqb v.sender w.sender ≡ false = ne_eqb _ _ (λ same. omega (arith, same)) in
    let on : with_vote v (w ∷ drop (k + 1) ws) ≡ w ∷ with_vote v (drop (k + 1) ws) = rw (not_less, other) refl in
    let front : take (k + 1) ws ≡ take k ws ++ w ∷ [] = take_more ws k w l ∙ ap (λ (x : Vote). take k ws ++ x ∷ []) (sym g) in
    p ∙ ap (λ (r : List Vote). take k ws ++ with_vote v r) at ∙ ap (λ (r : List Vote). take k ws ++ r) on
    ∙ sym (append_assoc (take k ws) (w ∷ []) (with_vote v (drop (k + 1) ws))) ∙ ap (λ (f : List Vote). f ++ with_vote v (drop (k + 1) ws)) (sym front)

-- it goes last
pub vote_last : (v : Vote) (ws : List Vote) (k : ℕ) → length ws ≤ k → k ≤ length ws → IsPassed v ws k → with_vote v ws ≡ insert ws k v
vote_last v ws k l m p =
    let none : drop k ws ≡ [] = drop_all k ws l in
    p ∙ ap (λ (r : List Vote). take k ws ++ with_vote v r) none ∙ ap (λ (r : List Vote). take k ws ++ v ∷ r) (sym none)

-- the vote at a place, and the best of those behind it
pub best_more : (vs : List Vote) (k j : ℕ) (v : Vote) → j ≡ k + 1 → k < length vs → v ≡ get_or vs k v → Some (better v (best_vote (drop j vs))) ≡ best_vote (drop k vs)
best_more vs k j v e l g =
    rw e (sym (at_drop_more best_vote vs k v l ∙ ap (λ (w : Vote). Some (better w (best_vote (drop (k + 1) vs)))) (sym g)))

-- the numbers below n and n itself
pub range_more : (n : ℕ) → range_with_len 0 (n + 1) ≡ range_with_len 0 n ++ n ∷ []
range_more n = sym (map-id (range_with_len 0 (n + 1))) ∙ map-range_with_len_more (λ (x : ℕ). x) 0 n n (omega arith) ∙ ap (λ (l : List ℕ). l ++ n ∷ []) (map-id (range_with_len 0 n))

-- one number more may pass a test
pub count_more : (p : ℕ → Bool) (n : ℕ) → length (filter p (range_with_len 0 (n + 1))) ≡ length (filter p (range_with_len 0 n)) + (if p n then 1 else 0)
count_more p n = rw (range_more n, filter-append p (range_with_len 0 n) (n ∷ []), length-append) (last (p n))
  where
    last : (b : Bool) → length (filter p (range_with_len 0 n)) + length (cond b (n ∷ []) []) ≡ length (filter p (range_with_len 0 n)) + (if b then 1 else 0)
    last true = refl
    last false = refl

-- the empty set has no node
pub empty_has : (q : ℕ) → has_member 0 q ≡ false
empty_has q = rw (zero-div (2 ^ q)) refl

-- of numbers none passes a test that all fail
none_pass : (p : ℕ → Bool) → ((q : ℕ) → p q ≡ false) → (qs : List ℕ) → length (filter p qs) ≡ 0
none_pass p fails [] = refl
none_pass p fails (q ∷ qs) = rw (fails q) (none_pass p fails qs)

-- and so no majority
pub empty_lacks : (n set : ℕ) → set ≡ 0 → has_majority n set ≡ false
empty_lacks n set e = rw (e, none_pass (λ q. has_member 0 q) empty_has (range_with_len 0 n)) (lt-leb _ _ (omega arith))

-- nothing is joined of the empty set
joined_none : (q a : ℕ) → joined_below q a 0 ≡ a
joined_none zero a = refl
joined_none (suc q) a = rw (empty_has q) (joined_none q a)

-- a set with the empty one is itself
pub joined_empty : (a b : ℕ) → b ≡ 0 → joined a b ≡ a
unfolding joined
joined_empty a b e = rw e (joined_none 7 a)
