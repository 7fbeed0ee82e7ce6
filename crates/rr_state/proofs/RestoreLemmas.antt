-- A promise restored entry by entry: each is set behind those before it.
use Rattle.std.proofs.Common.{◌≡◌, ℕ, ◌+◌, ◌<◌, ◌≤◌, Bool, true, false, ◌==◌, nat_lt, if◌then◌else◌, List, [], ◌∷◌, ◌++◌, length, drop, get_or, None, Some, is_some, refl, ap, sym, ◌∙◌, arith, subst, append_assoc, IsTrue}
use Rattle.std.proofs.lemmas.Bool.{ne_eqb, le-ltb, ltb-true, ltb-false}
use Rattle.std.proofs.lemmas.List.{drop_more}
use Rattle.std.proofs.lemmas.Option.{same_Some, slice_get-get_or}
use Rattle.rr_types.specs.declared.promise.Entry.{Entry}
use Rattle.rr_types.specs.Facts.{decision_of}
use Rattle.rr_types.specs.Promises.{AscendsFrom, standing_in, set_entry}
use Rattle.rr_model.proofs.Promised.{standing_in-set_entry}
use Rattle.rr_model.specs.NodeState.{Row}
use Rattle.rr_state.specs.declared.marks.Marks.{Marks}
use Rattle.rr_state.specs.Marked.{decided_entries, tree_in, marked_in, has_mark_place, AreMarks, IsBegun, IsCounted}
use Rattle.rr_state.proofs.MarkLemmas.{decided_in, none_is, prefix_decided}
use Rattle.rr_state.proofs.PrefixLemmas.{ascending}

abbrev AreUnder : ℕ → List Entry → Type 0
AreUnder low [] = Unit {0}
AreUnder low (e ∷ es) = (e.instance < low) × AreUnder low es

set_behind : (x : Entry) (es : List Entry) → AreUnder x.instance es → set_entry x.instance x.standing es ≡ es ++ x ∷ []
set_behind x [] h = refl
set_behind x (e ∷ es) h =
    let k = h.0 in
    let a : nat_lt x.instance e.instance ≡ false = le-ltb _ _ (omega arith) in
    let b : (x.instance == e.instance) ≡ false = ne_eqb _ _ (λ y. omega (arith, y)) in
    rw (a, b) (ap (λ z. e ∷ z) (set_behind x es h.1))

none_at : (low : ℕ) (es : List Entry) → AreUnder low es → standing_in es low ≡ None
none_at low [] h = refl
none_at low (e ∷ es) h = let k = h.0 in let o : (e.instance == low) ≡ false = ne_eqb _ _ (λ y. omega (arith, y)) in rw o (none_at low es h.1)

from_low : (low : ℕ) (es : List Entry) (x : Entry) (xs : List Entry) → AscendsFrom low (es ++ x ∷ xs) → low < x.instance + 1
from_low low [] x xs h = h.0
from_low low (e ∷ es) x xs h = let k = h.0 in let m = from_low (e.instance + 1) es x xs h.1 in omega (arith, m)

under_next : (low : ℕ) (es : List Entry) (x : Entry) (xs : List Entry) → AscendsFrom low (es ++ x ∷ xs) → AreUnder x.instance es
under_next low [] x xs h = tt
under_next low (e ∷ es) x xs h = let m = from_low (e.instance + 1) es x xs h.1 in (omega (arith, m), under_next (e.instance + 1) es x xs h.1)

-- the entries so far, and those from place k on, are those of the promise
abbrev pub IsRestored : List Row → Marks → List Entry → ℕ → Type 0
IsRestored rows m promise k = marked_in rows m ++ drop k promise ≡ promise

entries_at : (xs : List Entry) (k : ℕ) (x : Entry) → k < length xs → x ≡ get_or xs k x → drop k xs ≡ x ∷ drop (k + 1) xs
entries_at xs k x l g = drop_more xs k x l ∙ ap (λ (y : Entry). y ∷ drop (k + 1) xs) (sym g)

lies_under : (rows : List Row) (m : Marks) (promise : List Entry) (k : ℕ) (x : Entry) → AscendsFrom 0 promise → IsRestored rows m promise k → k < length promise → x ≡ get_or promise k x → AreUnder x.instance (marked_in rows m)
lies_under rows m promise k x h r l g =
    under_next 0 (marked_in rows m) x (drop (k + 1) promise) (subst (AscendsFrom 0) (sym (ap (λ xs. marked_in rows m ++ xs) (sym (entries_at promise k x l g)) ∙ r)) h)

-- the next entry is behind the prefix
pub behind_prefix : (rows : List Row) (m : Marks) (promise : List Entry) (k : ℕ) (x : Entry) → AreMarks m → IsCounted rows m → AscendsFrom 0 promise → IsRestored rows m promise k → k < length promise → x ≡ get_or promise k x → m.prefix ≤ x.instance
behind_prefix rows m promise k x marks counted h r l g = at (nat_lt x.instance m.prefix) refl
  where
    at : (b : Bool) → nat_lt x.instance m.prefix ≡ b → m.prefix ≤ x.instance
    at true t =
        let b = ltb-true _ _ t in
        let e = counted.count in
        absurd (none_is (decided_in (marked_in rows m) x.instance) (ap decision_of (none_at x.instance (marked_in rows m) (lies_under rows m promise k x h r l g)))
        (prefix_decided (marked_in rows m) x.instance (ascending rows m marks) (omega (arith, b, e))))
    at false t = ltb-false _ _ t

-- and leaves it as it is
pub still_begun : (rows : List Row) (m n : Marks) (x : Entry) → AreMarks m → IsCounted rows m → m.prefix ≤ x.instance → marked_in rows n ≡ set_entry x.instance x.standing (marked_in rows m) → n.prefix ≡ m.prefix → IsBegun rows n
still_begun rows m n x marks counted b v p i l =
    let e = counted.count in
    let o : (x.instance == i) ≡ false = ne_eqb _ _ (λ y. omega (arith, b, p, l, y)) in
    ap (λ es. is_some (decided_in es i)) v
    ∙ ap (λ s. is_some (decision_of s)) (standing_in-set_entry x.instance x.standing (marked_in rows m) i ∙ ap (λ (t : Bool). if t then Some x.standing else standing_in (marked_in rows m) i) o)
    ∙ prefix_decided (marked_in rows m) i (ascending rows m marks) (omega (arith, e, p, l))

pub restored_more : (rows : List Row) (m n : Marks) (promise : List Entry) (k : ℕ) (x : Entry) → AscendsFrom 0 promise → IsRestored rows m promise k → k < length promise → x ≡ get_or promise k x → marked_in rows n ≡ set_entry x.instance x.standing (marked_in rows m) → IsRestored rows n promise (k + 1)
restored_more rows m n promise k x h r l g v =
    ap (λ es. es ++ drop (k + 1) promise) (v ∙ set_behind x (marked_in rows m) (lies_under rows m promise k x h r l g))
    ∙ append_assoc (marked_in rows m) (x ∷ []) (drop (k + 1) promise) ∙ ap (λ xs. marked_in rows m ++ xs) (sym (entries_at promise k x l g)) ∙ r

-- their places
pub made_more : (m n : Marks) (promise : List Entry) (k : ℕ) (x : Entry) → k < length promise → x ≡ get_or promise k x → ((i : ℕ) → IsTrue (has_mark_place m i) → IsTrue (has_mark_place n i)) → IsTrue (has_mark_place n x.instance) → ((j : ℕ) (d : Entry) → j < k → IsTrue (has_mark_place m (get_or promise j d).instance)) → (j : ℕ) (d : Entry) → j < k + 1 → IsTrue (has_mark_place n (get_or promise j d).instance)
made_more m n promise k x l g stay new before j d b = at (nat_lt j k) refl
  where
    at : (t : Bool) → nat_lt j k ≡ t → IsTrue (has_mark_place n (get_or promise j d).instance)
    at true t = stay _ (before j d (ltb-true _ _ t))
    at false t =
        let le = ltb-false _ _ t in
        let e : k ≡ j = omega (arith, le, b) in
        let same : get_or promise k d ≡ x = same_Some (get_or promise k d) x (sym (slice_get-get_or promise k d l) ∙ slice_get-get_or promise k x l ∙ ap (λ (y : Entry). Some y) (sym g)) in
        subst (λ i. IsTrue (has_mark_place n (get_or promise i d).instance)) e (subst (λ (y : Entry). IsTrue (has_mark_place n y.instance)) (sym same) new)

-- where nothing has moved and nothing is in the tree, nothing is marked
pub none_yet : (rows : List Row) (m : Marks) → m.moved ≡ 0 → tree_in m ≡ [] → marked_in rows m ≡ []
none_yet rows m c t = ap (λ n. decided_entries rows 0 n ++ tree_in m) c ∙ t
