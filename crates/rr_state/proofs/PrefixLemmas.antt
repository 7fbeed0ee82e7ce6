-- The decided prefix in its rows: where its instances stand, its entries moved, and the facts about it left out.
use Rattle.std.proofs.Common.{◌≡◌, ℕ, zero, suc, ◌+◌, ◌-◌, ◌<◌, ◌≤◌, Bool, true, false, ◌==◌, ◌||◌, nat_lt, if◌then◌else◌, List, [], ◌∷◌, ◌++◌, length, slice_get, Option, None, Some, is_some, refl, ap, sym, ◌∙◌, arith, subst, eqb-true, get_or, drop, append_assoc, append-nil}
use Rattle.std.specs.Ordering.{nat_cmp}
use Rattle.std.specs.BTreeMap.{insert_entry, is_at}
use Rattle.std.specs.List.Sorted.{IsStrictlySortedBy}
use Rattle.std.specs.Map.{keys_of, lookup, set_value}
use Rattle.std.proofs.lemmas.Bool.{ne_eqb, eq-eqb, lt-ltb, le-ltb, ltb-true, ltb-false, eqb-false}
use Rattle.std.proofs.lemmas.Cmp.{nat_cmp_total}
use Rattle.std.proofs.lemmas.Map.Lookups.{exact_unsigned}
use Rattle.std.proofs.lemmas.Map.Steps.{set_value_same}
use Rattle.std.proofs.lemmas.Option.{none-some, same_Some}
use Rattle.rr_types.specs.declared.command.Command.{Command}
use Rattle.rr_types.specs.declared.fact.Fact.{Fact}
use Rattle.rr_types.specs.declared.promise.Standing.{Standing}
use Rattle.rr_types.specs.declared.promise.Standing.TheVariants.{Decided, Open}
use Rattle.rr_types.specs.declared.promise.Entry.{Entry}
use Rattle.rr_types.specs.Facts.{instance_of, after_fact, decision_of}
use Rattle.rr_types.specs.Standings.{standing_from, IsInRound}
use Rattle.rr_types.specs.Promises.{AscendsFrom, IsAscending, standing_in, set_entry, set_standing, take_on, take_on_all, decided_from}
use Rattle.rr_types.specs.Commands.{is_same_command}
use Rattle.rr_model.proofs.Promised.{standing_in-take_on, standing_in-take_on_all}
use Rattle.rr_registry.specs.Places.{filled, has_place}
use Rattle.rr_registry.proofs.PlaceLemmas.{filled-set, lookup-filled, value_of_place, joined}
use Rattle.rr_model.specs.NodeState.{Row}
use Rattle.rr_model.proofs.SameCommands.{same_command}
use Rattle.rr_state.specs.Listed.{decision_at, KeepsDecisions, KeepsPromised, AllInRound}
use Rattle.rr_state.specs.declared.marks.Marks.{Marks}
use Rattle.rr_state.specs.Marked.{entries_in, AreEntered, with_decision, decided_entries, tree_in, marked_in, has_mark_place, AreMarks, HaveMoved, IsNext, IsBegun, IsCounted, HaveMarkPlaces, facts_from}
use Rattle.rr_state.proofs.MarkLemmas.{stands, standing_at, instance_at, decided_in, some_or, none_is, none_below, ascend_all, facts_at, prefix_decided, prefix_is, set_entry_at, entered_at, ascend_set, instances_set}
use Rattle.rr_state.proofs.TableLemmas.{eq_nat_cmp}

by_bool : {Z : Type 0} (b : Bool) → (b ≡ true → Z) → (b ≡ false → Z) → Z
by_bool true f g = f refl
by_bool false f g = g refl

-- one entry more, in front of entries
ascend_lower : (i : ℕ) (es : List Entry) → AscendsFrom (i + 1) es → AscendsFrom i es
ascend_lower i [] h = tt
ascend_lower i (e ∷ es) h = let k = h.0 in (omega (arith, k), h.1)

ascend_with : (i : ℕ) (o : Option Command) (ds es : List Entry) → AscendsFrom (i + 1) (ds ++ es) → AscendsFrom i (with_decision i o ds ++ es)
ascend_with i None ds es h = ascend_lower i (ds ++ es) h
ascend_with i (Some v) ds es h = (omega arith, h)

pass_with : (i k : ℕ) (o : Option Command) (ds es : List Entry) → (i == k) ≡ false → standing_in (with_decision i o ds ++ es) k ≡ standing_in (ds ++ es) k
pass_with i k None ds es t = refl
pass_with i k (Some v) ds es t = rw t refl

stand_with : (i k : ℕ) (v : Command) (ds es : List Entry) → (i == k) ≡ true → standing_in (with_decision i (Some v) ds ++ es) k ≡ Some (Decided v)
stand_with i k v ds es t = rw t refl

set_with : (i k : ℕ) (s : Standing) (o : Option Command) (ds es : List Entry) → nat_lt k i ≡ false → (k == i) ≡ false → set_entry k s (ds ++ es) ≡ ds ++ set_entry k s es → set_entry k s (with_decision i o ds ++ es) ≡ with_decision i o ds ++ set_entry k s es
set_with i k s None ds es a b h = h
set_with i k s (Some v) ds es a b h = rw (a, b) (ap (λ rs. record { instance = i; standing = Decided v } ∷ rs) h)

same_with : (i : ℕ) (o : Option Command) (ds es xs ys : List Entry) → ds ++ es ≡ xs ++ ys → with_decision i o ds ++ es ≡ with_decision i o xs ++ ys
same_with i None ds es xs ys h = h
same_with i (Some v) ds es xs ys h = ap (λ rs. record { instance = i; standing = Decided v } ∷ rs) h

-- the entries of decided instances ascend, and those behind them
ascend_decided : (rows : List Row) (i n : ℕ) (es : List Entry) → AscendsFrom (i + n) es → AscendsFrom i (decided_entries rows i n ++ es)
ascend_decided rows i zero es h = subst (λ k. AscendsFrom k es) (omega arith) h
ascend_decided rows i (suc n) es h = ascend_with i (decision_at rows i) (decided_entries rows (i + 1) n) es (ascend_decided rows (i + 1) n es (subst (λ k. AscendsFrom k es) (omega arith) h))

pub ascending : (rows : List Row) (m : Marks) → AreMarks m → AscendsFrom 0 (marked_in rows m)
ascending rows m h = ascend_decided rows 0 m.moved (tree_in m) (subst (λ k. AscendsFrom k (tree_in m)) (omega arith) h.behind)

-- where an instance stands that has moved
stands_low : (rows : List Row) (i n k : ℕ) (es : List Entry) (v : Command) → i ≤ k → k < i + n → decision_at rows k ≡ Some v → standing_in (decided_entries rows i n ++ es) k ≡ Some (Decided v)
stands_low rows i zero k es v l b d = absurd (omega (arith, l, b))
stands_low rows i (suc n) k es v l b d =
    by_bool (i == k)
    (λ t. let o : decision_at rows i ≡ Some v = ap (decision_at rows) (eqb-true i k t) ∙ d in
    ap (λ x. standing_in (with_decision i x (decided_entries rows (i + 1) n) ++ es) k) o ∙ stand_with i k v (decided_entries rows (i + 1) n) es t)
    (λ t. let e : i ≡ k → ⊥ = eqb-false i k t in
    pass_with i k (decision_at rows i) (decided_entries rows (i + 1) n) es t ∙ stands_low rows (i + 1) n k es v (omega (arith, l, e)) (omega (arith, b)) d)

pub stands_moved : (rows : List Row) (m : Marks) (k : ℕ) (v : Command) → k < m.moved → decision_at rows k ≡ Some v → standing_in (marked_in rows m) k ≡ Some (Decided v)
stands_moved rows m k v l d = stands_low rows 0 m.moved k (tree_in m) v (omega arith) (omega (arith, l)) d

-- another instance stands as it does in the tree
stands_high : (rows : List Row) (i n k : ℕ) (es : List Entry) → i + n ≤ k → standing_in (decided_entries rows i n ++ es) k ≡ standing_in es k
stands_high rows i zero k es l = refl
stands_high rows i (suc n) k es l =
    let o : (i == k) ≡ false = ne_eqb _ _ (λ x. omega (arith, l, x)) in
    pass_with i k (decision_at rows i) (decided_entries rows (i + 1) n) es o ∙ stands_high rows (i + 1) n k es (omega (arith, l))

pub stands_behind : (rows : List Row) (m : Marks) (k : ℕ) → m.moved ≤ k → standing_in (marked_in rows m) k ≡ standing_in (tree_in m) k
stands_behind rows m k l = stands_high rows 0 m.moved k (tree_in m) (omega (arith, l))

-- and is set there
set_high : (rows : List Row) (i n k : ℕ) (s : Standing) (es : List Entry) → i + n ≤ k → set_entry k s (decided_entries rows i n ++ es) ≡ decided_entries rows i n ++ set_entry k s es
set_high rows i zero k s es l = refl
set_high rows i (suc n) k s es l =
    let o : nat_lt k i ≡ false = le-ltb _ _ (omega (arith, l)) in
    let e : (k == i) ≡ false = ne_eqb _ _ (λ x. omega (arith, l, x)) in
    set_with i k s (decision_at rows i) (decided_entries rows (i + 1) n) es o e (set_high rows (i + 1) n k s es (omega (arith, l)))

pub set_behind : (rows : List Row) (m n : Marks) (k : ℕ) (s : Standing) → m.moved ≤ k → n.moved ≡ m.moved → tree_in n ≡ set_entry k s (tree_in m) → marked_in rows n ≡ set_entry k s (marked_in rows m)
set_behind rows m n k s l c t =
    ap (λ z. decided_entries rows 0 z ++ tree_in n) c ∙ ap (λ es. decided_entries rows 0 m.moved ++ es) t ∙ sym (set_high rows 0 m.moved k s (tree_in m) (omega (arith, l)))

-- one instance more has moved
decided_push : (rows : List Row) (i n : ℕ) (v : Command) (es : List Entry) → decision_at rows (i + n) ≡ Some v → decided_entries rows i (suc n) ++ es ≡ decided_entries rows i n ++ record { instance = i + n; standing = Decided v } ∷ es
decided_push rows i zero v es d =
    let a : i + 0 ≡ i = omega arith in
    ap (λ o. with_decision i o [] ++ es) (sym (ap (decision_at rows) a) ∙ d) ∙ ap (λ k. record { instance = k; standing = Decided v } ∷ es) (sym a)
decided_push rows i (suc n) v es d =
    let a : i + 1 + n ≡ i + suc n = omega arith in
    let x : Entry = record { instance = i + suc n; standing = Decided v } in
    same_with i (decision_at rows i) (decided_entries rows (i + 1) (suc n)) es (decided_entries rows (i + 1) n) (x ∷ es)
    (decided_push rows (i + 1) n v es (ap (decision_at rows) a ∙ d) ∙ ap (λ k. decided_entries rows (i + 1) n ++ record { instance = k; standing = Decided v } ∷ es) a)

-- the entries from a place on, one after another
next_entries : (rows : List Row) (place moved : ℕ) → place < moved → decided_entries rows place (moved - place) ≡ with_decision place (decision_at rows place) (decided_entries rows (place + 1) (moved - (place + 1)))
next_entries rows place moved l = let e : moved - place ≡ suc (moved - (place + 1)) = omega (arith, l) in ap (λ n. decided_entries rows place n) e

pub entries_some : (rows : List Row) (place moved : ℕ) (xs : List Entry) (v : Command) → place < moved → decision_at rows place ≡ Some v → (xs ++ record { instance = place; standing = Decided v } ∷ []) ++ decided_entries rows (place + 1) (moved - (place + 1)) ≡ xs ++ decided_entries rows place (moved - place)
entries_some rows place moved xs v l d =
    let rest = decided_entries rows (place + 1) (moved - (place + 1)) in
    append_assoc xs (record { instance = place; standing = Decided v } ∷ []) rest
    ∙ ap (λ es. xs ++ es) (sym (next_entries rows place moved l ∙ ap (λ o. with_decision place o rest) d))

pub entries_none : (rows : List Row) (place moved : ℕ) (xs : List Entry) → place < moved → decision_at rows place ≡ None → xs ++ decided_entries rows (place + 1) (moved - (place + 1)) ≡ xs ++ decided_entries rows place (moved - place)
entries_none rows place moved xs l d =
    let rest = decided_entries rows (place + 1) (moved - (place + 1)) in
    ap (λ es. xs ++ es) (sym (next_entries rows place moved l ∙ ap (λ o. with_decision place o rest) d))

pub entries_all : (rows : List Row) (place moved : ℕ) (xs : List Entry) → moved ≤ place → xs ++ decided_entries rows place (moved - place) ≡ xs
entries_all rows place moved xs l = let e : moved - place ≡ 0 = omega (arith, l) in ap (λ n. xs ++ decided_entries rows place n) e ∙ append-nil xs

-- other rows that have decided the same
decided_same : (rows after : List Row) (i n : ℕ) → ((k : ℕ) → i ≤ k → k < i + n → decision_at after k ≡ decision_at rows k) → decided_entries after i n ≡ decided_entries rows i n
decided_same rows after i zero h = refl
decided_same rows after i (suc n) h =
    ap (λ o. with_decision i o (decided_entries after (i + 1) n)) (h i (omega arith) (omega arith))
    ∙ ap (λ es. with_decision i (decision_at rows i) es) (decided_same rows after (i + 1) n (λ k l b. h k (omega (arith, l)) (omega (arith, b))))

still_decided : (rows after : List Row) (m : Marks) → HaveMoved rows m → KeepsDecisions rows after → (k : ℕ) → k < m.moved → decision_at after k ≡ decision_at rows k
still_decided rows after m h keeps k l =
    some_or (decision_at rows k) (λ e. absurd (none_is (decision_at rows k) e (h k l))) (λ v e. keeps k v e ∙ sym e)

pub have_moved : (rows after : List Row) (m n : Marks) → HaveMoved rows m → KeepsDecisions rows after → n.moved ≡ m.moved → HaveMoved after n
have_moved rows after m n h keeps c k l = ap (λ o. is_some o) (still_decided rows after m h keeps k (omega (arith, l, c))) ∙ h k (omega (arith, l, c))

-- the promise is the same beside rows that keep what was decided
pub marked_same : (rows after : List Row) (m n : Marks) → HaveMoved rows m → KeepsDecisions rows after → n.moved ≡ m.moved → tree_in n ≡ tree_in m → marked_in after n ≡ marked_in rows m
marked_same rows after m n h keeps c t =
    ap (λ z. decided_entries after 0 z ++ tree_in n) c ∙ ap (λ es. decided_entries after 0 m.moved ++ es) t
    ∙ ap (λ ds. ds ++ tree_in m) (decided_same rows after 0 m.moved (λ k l b. still_decided rows after m h keeps k (omega (arith, b))))

-- two promises are the same where each instance stands in the one as in the other
here : (e : Entry) (es : List Entry) → standing_in (e ∷ es) e.instance ≡ Some e.standing
here e es = let same : (e.instance == e.instance) ≡ true = eq-eqb _ _ refl in rw same refl

not_below : (d e : Entry) (ds es : List Entry) → AscendsFrom (e.instance + 1) es → standing_in (d ∷ ds) d.instance ≡ standing_in (e ∷ es) d.instance → d.instance < e.instance → ⊥
not_below d e ds es h s l = none-some d.standing (sym (none_below e.instance (e ∷ es) d.instance (omega arith, h) l) ∙ sym s ∙ here d ds)

over : (e : Entry) (es : List Entry) (i : ℕ) → (e.instance == i) ≡ false → standing_in (e ∷ es) i ≡ standing_in es i
over e es i o = rw o refl

same_entry : (d e : Entry) → d.instance ≡ e.instance → d.standing ≡ e.standing → d ≡ e
same_entry d e h k = ap (λ i. record { instance = i; standing = d.standing }) h ∙ ap (λ s. record { instance = e.instance; standing = s }) k

same_entries : (low high : ℕ) (ds es : List Entry) → AscendsFrom low ds → AscendsFrom high es → ((i : ℕ) → standing_in ds i ≡ standing_in es i) → ds ≡ es
same_entries low high [] [] h g s = refl
same_entries low high [] (e ∷ es) h g s = absurd (none-some e.standing (s e.instance ∙ here e es))
same_entries low high (d ∷ ds) [] h g s = absurd (none-some d.standing (sym (s d.instance) ∙ here d ds))
same_entries low high (d ∷ ds) (e ∷ es) h g s =
    let a = not_below d e ds es g.1 (s d.instance) in
    let b = not_below e d es ds h.1 (sym (s e.instance)) in
    let i : d.instance ≡ e.instance = by_bool (nat_lt d.instance e.instance) (λ t. absurd (a (ltb-true _ _ t)))
    (λ t. by_bool (nat_lt e.instance d.instance) (λ u. absurd (b (ltb-true _ _ u))) (λ u. let x = ltb-false _ _ t in let y = ltb-false _ _ u in omega (arith, x, y))) in
    let st : d.standing ≡ e.standing = same_Some d.standing e.standing (sym (here d ds) ∙ s d.instance ∙ ap (standing_in (e ∷ es)) i ∙ here e es) in
    let rest : ds ≡ es = same_entries (d.instance + 1) (e.instance + 1) ds es h.1 g.1
    (λ j. by_bool (d.instance == j)
    (λ t. let x = eqb-true d.instance j t in none_below (d.instance + 1) ds j h.1 (omega (arith, x)) ∙ sym (none_below (e.instance + 1) es j g.1 (omega (arith, x, i))))
    (λ t. sym (over d ds j t) ∙ s j ∙ over e es j (ap (λ k. k == j) (sym i) ∙ t))) in
    ap (λ x. x ∷ ds) (same_entry d e i st) ∙ ap (λ xs. e ∷ xs) rest

-- what facts about instances from k on do
from_high : (k i : ℕ) (s : Option Standing) (facts : List Fact) → k ≤ i → standing_from s i (facts_from k facts) ≡ standing_from s i facts
from_high k i s [] l = refl
from_high k i s (f ∷ fs) l = at (λ s. from_high k i s fs l) (nat_lt (instance_of f) k) refl
  where
    at : ((s : Option Standing) → standing_from s i (facts_from k fs) ≡ standing_from s i fs) → (b : Bool) → nat_lt (instance_of f) k ≡ b → standing_from s i (facts_from k (f ∷ fs)) ≡ standing_from s i (f ∷ fs)
    at more true e =
        let m = ltb-true _ _ e in
        let o : (instance_of f == i) ≡ false = ne_eqb _ _ (λ x. omega (arith, m, l, x)) in
        rw (e, o) (more s)
    at more false e = rw e (more (if instance_of f == i then after_fact s f else s))

from_low : (k i : ℕ) (s : Option Standing) (facts : List Fact) → i < k → standing_from s i (facts_from k facts) ≡ s
from_low k i s [] l = refl
from_low k i s (f ∷ fs) l = at (from_low k i s fs l) (nat_lt (instance_of f) k) refl
  where
    at : standing_from s i (facts_from k fs) ≡ s → (b : Bool) → nat_lt (instance_of f) k ≡ b → standing_from s i (facts_from k (f ∷ fs)) ≡ s
    at more true e = rw e more
    at more false e =
        let m = ltb-false _ _ e in
        let o : (instance_of f == i) ≡ false = ne_eqb _ _ (λ x. omega (arith, m, l, x)) in
        ap (λ b. standing_from s i (if b then facts_from k fs else f ∷ facts_from k fs)) e
        ∙ ap (λ b. standing_from (if b then after_fact s f else s) i (facts_from k fs)) o ∙ more

decided_is : (s : Option Standing) (v : Command) → decision_of s ≡ Some v → s ≡ Some (Decided v)
decided_is None v h = absurd (none-some v h)
decided_is (Some (Decided w)) v h = ap (λ x. Some (Decided x)) (same_Some w v h)
decided_is (Some (Open o)) v h = absurd (none-some v h)

-- facts about instances that have decided, and keep their decision, change nothing in the end
pub facts_skipped : (es : List Entry) (facts : List Fact) (k : ℕ) → AscendsFrom 0 es → ((i : ℕ) → i < k → is_some (decided_in es i) ≡ true) → KeepsPromised es (take_on_all es facts) → take_on_all es (facts_from k facts) ≡ take_on_all es facts
facts_skipped es facts k h d keeps =
    same_entries 0 0 (take_on_all es (facts_from k facts)) (take_on_all es facts) (ascend_all es (facts_from k facts) h) (ascend_all es facts h)
    (λ i. by_bool (nat_lt i k)
    (λ t. let l = ltb-true _ _ t in some_or (decided_in es i) (λ e. absurd (none_is (decided_in es i) e (d i l)))
    (λ v e. standing_in-take_on_all es (facts_from k facts) i ∙ from_low k i (standing_in es i) facts l ∙ decided_is (standing_in es i) v e ∙ sym (decided_is (standing_in (take_on_all es facts) i) v (keeps i v e))))
    (λ t. standing_in-take_on_all es (facts_from k facts) i ∙ from_high k i (standing_in es i) facts (ltb-false _ _ t) ∙ sym (standing_in-take_on_all es facts i)))

-- two promises agree on the instances from k on
abbrev AgreeFrom : ℕ → List Entry → List Entry → Type 0
AgreeFrom k ds es = (i : ℕ) → k ≤ i → standing_in ds i ≡ standing_in es i

agree_taken : (k : ℕ) (ds es : List Entry) (f : Fact) → AgreeFrom k ds es → AgreeFrom k (take_on ds f) (take_on es f)
agree_taken k ds es f h i l = standing_in-take_on ds f i ∙ ap (λ s. if instance_of f == i then after_fact s f else s) (h i l) ∙ sym (standing_in-take_on es f i)

agree_skipped : (k : ℕ) (ds es : List Entry) (f : Fact) → nat_lt (instance_of f) k ≡ true → AgreeFrom k ds es → AgreeFrom k (take_on ds f) es
agree_skipped k ds es f t h i l =
    let m = ltb-true _ _ t in
    let o : (instance_of f == i) ≡ false = ne_eqb _ _ (λ x. omega (arith, m, l, x)) in
    standing_in-take_on ds f i ∙ ap (λ b. if b then after_fact (standing_in ds i) f else standing_in ds i) o ∙ h i l

round_from : (k : ℕ) (ds es : List Entry) (facts : List Fact) → AgreeFrom k ds es → AllInRound ds facts → AllInRound es (facts_from k facts)
round_from k ds es [] a h = tt
round_from k ds es (f ∷ fs) a h = at (λ xs b. round_from k (take_on ds f) xs fs b h.1) (nat_lt (instance_of f) k) refl
  where
    at : ((xs : List Entry) → AgreeFrom k (take_on ds f) xs → AllInRound xs (facts_from k fs)) → (b : Bool) → nat_lt (instance_of f) k ≡ b → AllInRound es (facts_from k (f ∷ fs))
    at more true e = rw e (more es (agree_skipped k ds es f e a))
    at more false e = rw e (subst (λ s. IsInRound s f) (a (instance_of f) (ltb-false _ _ e)) h.0, more (take_on es f) (agree_taken k ds es f a))

-- the facts left, where the next isn't about an instance of the prefix
pub next_fact : (p : ℕ) (fs : List Fact) (k : ℕ) (f : Fact) → k < length fs → f ≡ get_or fs k f → p ≤ instance_of f → facts_from p (drop k fs) ≡ f ∷ facts_from p (drop (k + 1) fs)
next_fact p fs k f l g h = let t : nat_lt (instance_of f) p ≡ false = le-ltb _ _ h in ap (facts_from p) (facts_at fs k f l g) ∙ rw t refl

-- facts about instances behind those that have moved change the tree alone
set_some : (rows : List Row) (n k : ℕ) (o : Option Standing) (es : List Entry) → n ≤ k → set_standing k o (decided_entries rows 0 n ++ es) ≡ decided_entries rows 0 n ++ set_standing k o es
set_some rows n k None es l = refl
set_some rows n k (Some s) es l = set_high rows 0 n k s es (omega (arith, l))

take_one : (rows : List Row) (n : ℕ) (f : Fact) (es : List Entry) → n ≤ instance_of f → take_on (decided_entries rows 0 n ++ es) f ≡ decided_entries rows 0 n ++ take_on es f
take_one rows n f es l =
    ap (λ s. set_standing (instance_of f) (after_fact s f) (decided_entries rows 0 n ++ es)) (stands_high rows 0 n (instance_of f) es (omega (arith, l)))
    ∙ set_some rows n (instance_of f) (after_fact (standing_in es (instance_of f)) f) es l

take_high : (rows : List Row) (n p : ℕ) (es : List Entry) (facts : List Fact) → n ≤ p → take_on_all (decided_entries rows 0 n ++ es) (facts_from p facts) ≡ decided_entries rows 0 n ++ take_on_all es (facts_from p facts)
take_high rows n p es [] l = refl
take_high rows n p es (f ∷ fs) l = at (λ xs. take_high rows n p xs fs l) (nat_lt (instance_of f) p) refl
  where
    at : ((xs : List Entry) → take_on_all (decided_entries rows 0 n ++ xs) (facts_from p fs) ≡ decided_entries rows 0 n ++ take_on_all xs (facts_from p fs)) → (b : Bool) → nat_lt (instance_of f) p ≡ b → take_on_all (decided_entries rows 0 n ++ es) (facts_from p (f ∷ fs)) ≡ decided_entries rows 0 n ++ take_on_all es (facts_from p (f ∷ fs))
    at more true e = rw e (more es)
    at more false e =
        let b = ltb-false _ _ e in
        rw e (ap (λ xs. take_on_all xs (facts_from p fs)) (take_one rows n f es (omega (arith, b, l))) ∙ more (take_on es f))

-- the tree has taken on the facts behind the prefix
pub taken_behind : (rows : List Row) (m n : Marks) (facts : List Fact) → AreMarks m → n.moved ≡ m.moved → tree_in n ≡ take_on_all (tree_in m) (facts_from m.prefix facts) → marked_in rows n ≡ take_on_all (marked_in rows m) (facts_from m.prefix facts)
taken_behind rows m n facts h c t =
    ap (λ z. decided_entries rows 0 z ++ tree_in n) c ∙ ap (λ es. decided_entries rows 0 m.moved ++ es) t ∙ sym (take_high rows m.moved m.prefix (tree_in m) facts h.moved)

-- the same facts are in their rounds and have their places there
pub rounds_behind : (rows : List Row) (m : Marks) (facts : List Fact) → AreMarks m → AllInRound (marked_in rows m) facts → AllInRound (tree_in m) (facts_from m.prefix facts)
rounds_behind rows m facts h r = round_from m.prefix (marked_in rows m) (tree_in m) facts (λ i l. let k = h.moved in stands_behind rows m i (omega (arith, k, l))) r

unmoved : (a b : Bool) → (a || b) ≡ false → a ≡ false
unmoved true b h = h
unmoved false b h = refl

pub places_behind : (rows : List Row) (m : Marks) (facts : List Fact) → AreMarks m → HaveMarkPlaces m (take_on_all (marked_in rows m) (facts_from m.prefix facts)) → HaveMarkPlaces m (take_on_all (tree_in m) (facts_from m.prefix facts))
places_behind rows m facts h places i f =
    let b : m.moved ≤ i = ltb-false _ _ (unmoved (nat_lt i m.moved) (has_place nat_cmp m.entries.entries i) f) in
    let after = take_on_all (tree_in m) (facts_from m.prefix facts) in
    sym (stands_high rows 0 m.moved i after (omega (arith, b)))
    ∙ ap (λ es. standing_in es i) (sym (take_high rows m.moved m.prefix (tree_in m) facts h.moved)) ∙ places i f

-- an entry set in the tree, at its instance
abbrev pub tree_set : Marks → Marks → ℕ → Entry → Type 0
tree_set m n i x = filled n.entries.entries ≡ insert_entry nat_cmp (filled m.entries.entries) i x

pub tree_value : (m n : Marks) (i : ℕ) (x : Entry) → AreMarks m → i ≡ x.instance → tree_set m n i x → tree_in n ≡ set_entry x.instance x.standing (tree_in m)
tree_value m n i x h e t = ap entries_in t ∙ set_entry_at x i (filled m.entries.entries) h.entered e

pub tree_marks : (m n : Marks) (i : ℕ) (x : Entry) → AreMarks m → i ≡ x.instance → i < 1048576 → m.moved ≤ x.instance → n.moved ≡ m.moved → n.prefix ≡ m.prefix → tree_set m n i x → AreMarks n
tree_marks m n i x h e r l c p t =
    let value = tree_value m n i x h e t in
    record {
      moved = let q = h.moved in omega (arith, c, p, q);
      small = let q = h.small in omega (arith, c, q);
      entered = rw t (entered_at x i (filled m.entries.entries) h.entered e);
      behind = rw (c, value) (ascend_set m.moved x.instance x.standing (tree_in m) h.behind (omega (arith, l)));
      instances = rw value (instances_set x.instance x.standing (tree_in m) (omega (arith, e, r)) h.instances);
    }

-- one fact has been taken on
pub record HasTaken (m n : Marks) (f : Fact) : Type 0 where
  pub value : tree_in n ≡ take_on (tree_in m) f
  pub marks : AreMarks n

-- the place of an instance behind those that have moved, as a look-up finds it
pub record IsPlace (m : Marks) (i : ℕ) (p : Option Entry) : Type 0 where
  pub behind : m.moved ≤ i
  pub sorted : IsStrictlySortedBy nat_cmp (keys_of m.entries.entries)
  pub found : lookup (is_at (nat_cmp i)) m.entries.entries ≡ Some p

pub place_behind : (m : Marks) (f : Fact) (i : ℕ) (p : Option Entry) → AreMarks m → m.prefix ≤ instance_of f → i ≡ instance_of f → IsStrictlySortedBy nat_cmp (keys_of m.entries.entries) → Some p ≡ lookup (is_at (nat_cmp i)) m.entries.entries → IsPlace m i p
place_behind m f i p h l e s t = record { behind = let q = h.moved in omega (arith, q, l, e); sorted = s; found = sym t }

-- what a place has is the entry of its instance
pub entry_in_place : (m : Marks) (i : ℕ) (x : Entry) → AreMarks m → IsPlace m i (Some x) → i ≡ x.instance
entry_in_place m i x h at = instance_at (filled m.entries.entries) i x h.entered (value_of_place (is_at (nat_cmp i)) m.entries.entries x at.found)

-- the instance stands by it
stands_in_place : (m : Marks) (i : ℕ) (p : Option Entry) → AreMarks m → IsPlace m i p → standing_in (tree_in m) i ≡ stands p
stands_in_place m i p h at =
    standing_at (filled m.entries.entries) i h.entered ∙ ap stands (lookup-filled nat_cmp nat_cmp_total i m.entries.entries at.sorted ∙ ap joined at.found)

-- a fact about it is of its round
pub round_in_place : (m : Marks) (f : Fact) (i : ℕ) (p : Option Entry) → AreMarks m → IsPlace m i p → i ≡ instance_of f → IsInRound (standing_in (tree_in m) (instance_of f)) f → IsInRound (stands p) f
round_in_place m f i p h at e r = subst (λ o. IsInRound o f) (ap (standing_in (tree_in m)) (sym e) ∙ stands_in_place m i p h at) r

-- an entry written in the place takes a fact on
pub taken_in_place : (m n : Marks) (f : Fact) (i : ℕ) (p : Option Entry) (x : Entry) → AreMarks m → IsPlace m i p → i ≡ instance_of f → i ≡ x.instance → i < 1048576 → Some x.standing ≡ after_fact (stands p) f → n.moved ≡ m.moved → n.prefix ≡ m.prefix → n.entries.entries ≡ set_value (is_at (nat_cmp i)) m.entries.entries (Some x) → HasTaken m n f
taken_in_place m n f i p x h at e k r s c q t =
    let b = at.behind in
    let low : m.moved ≤ x.instance = omega (arith, b, k) in
    let tree : tree_set m n i x = ap filled t ∙ filled-set nat_cmp nat_cmp_total exact_unsigned i (Some x) m.entries.entries at.sorted (ap is_some at.found) in
    let after : after_fact (standing_in (tree_in m) (instance_of f)) f ≡ Some x.standing = ap (λ j. after_fact (standing_in (tree_in m) j) f) (sym e) ∙ ap (λ o. after_fact o f) (stands_in_place m i p h at) ∙ sym s in
    record {
      value = tree_value m n i x h k tree ∙ ap (λ j. set_entry j x.standing (tree_in m)) (sym k ∙ e) ∙ ap (λ o. set_standing (instance_of f) o (tree_in m)) (sym after);
      marks = tree_marks m n i x h k r low c q tree;
    }

-- a place left as it is takes on a fact that leaves no standing
pub left_in_place : (m n : Marks) (f : Fact) (i : ℕ) (p : Option Entry) → AreMarks m → IsPlace m i p → i ≡ instance_of f → after_fact (stands p) f ≡ None → n.moved ≡ m.moved → n.prefix ≡ m.prefix → n.entries.entries ≡ set_value (is_at (nat_cmp i)) m.entries.entries p → HasTaken m n f
left_in_place m n f i p h at e s c q t =
    let tree : filled n.entries.entries ≡ filled m.entries.entries = ap filled (t ∙ set_value_same (is_at (nat_cmp i)) m.entries.entries p at.found) in
    let value : tree_in n ≡ tree_in m = ap entries_in tree in
    let after : after_fact (standing_in (tree_in m) (instance_of f)) f ≡ None = ap (λ j. after_fact (standing_in (tree_in m) j) f) (sym e) ∙ ap (λ o. after_fact o f) (stands_in_place m i p h at) ∙ s in
    record {
      value = value ∙ ap (λ o. set_standing (instance_of f) o (tree_in m)) (sym after);
      marks = record {
        moved = let l = h.moved in omega (arith, c, q, l);
        small = let l = h.small in omega (arith, c, l);
        entered = rw tree h.entered;
        behind = rw (c, tree) h.behind;
        instances = rw tree h.instances;
      };
    }

-- the tree's first entry leaves it
first_entered : (n : ℕ) (x : Entry) (es : List (ℕ × Option Entry)) → slice_get es 0 ≡ Some (n, Some x) → AreEntered (filled es) → n ≡ x.instance
first_entered n x [] g h = absurd (none-some (n, Some x) g)
first_entered n x (e ∷ es) g h = (subst (λ (y : ℕ × Option Entry). AreEntered (filled (y ∷ es))) (same_Some e (n, Some x) g) h).0

pub next_is : (rows : List Row) (m : Marks) (n : ℕ) (x : Entry) (v w : Command) → AreMarks m → slice_get m.entries.entries 0 ≡ Some (n, Some x) → n ≡ m.moved → n < m.prefix → x.standing ≡ Decided v → decision_at rows n ≡ Some w → is_same_command v w ≡ true → IsNext rows m v
next_is rows m n x v w h g l b st d same =
    let at : x.instance ≡ m.moved = sym (first_entered n x m.entries.entries g h.entered) ∙ l in
    record {
      first =
          g ∙ ap (λ k. Some (k, Some x)) l
          ∙ ap (λ y. Some (m.moved, Some y)) (same_entry x (record { instance = m.moved; standing = Decided v }) at st);
      below = omega (arith, l, b);
      row = ap (decision_at rows) (sym l) ∙ d ∙ ap (λ c. Some c) (sym (same_command v w same));
    }

place_by : (i n : ℕ) (x : Option Entry) (rest : List (ℕ × Option Entry)) → (b : Bool) → (n == i) ≡ b → (nat_lt i (n + 1) || has_place nat_cmp rest i) ≡ (nat_lt i n || has_place nat_cmp ((n, x) ∷ rest) i)
place_by i n x rest true e =
    let s : n ≡ i = eqb-true n i e in
    let a : nat_lt i (n + 1) ≡ true = lt-ltb _ _ (omega (arith, s)) in
    let c : nat_lt i n ≡ false = le-ltb _ _ (omega (arith, s)) in
    rw (eq_nat_cmp i n, e, a, c) refl
place_by i n x rest false e =
    let s : n ≡ i → ⊥ = eqb-false n i e in
    let same : nat_lt i (n + 1) ≡ nat_lt i n = by_bool (nat_lt i n)
    (λ t. let l = ltb-true _ _ t in let a : nat_lt i (n + 1) ≡ true = lt-ltb _ _ (omega (arith, l)) in a ∙ sym t)
    (λ t. let l = ltb-false _ _ t in let a : nat_lt i (n + 1) ≡ false = le-ltb _ _ (omega (arith, l, s)) in a ∙ sym t) in
    rw (eq_nat_cmp i n, e, same) refl

-- one instance of the prefix has moved
pub record HasMoved (rows : List Row) (m n : Marks) : Type 0 where
  pub value : marked_in rows n ≡ marked_in rows m
  pub marks : AreMarks n
  pub moved : HaveMoved rows n
  pub places : (i : ℕ) → has_mark_place n i ≡ has_mark_place m i

moved_more : (rows : List Row) (m : Marks) (v : Command) → HaveMoved rows m → decision_at rows m.moved ≡ Some v → (i : ℕ) → i < m.moved + 1 → is_some (decision_at rows i) ≡ true
moved_more rows m v h d i l =
    by_bool (nat_lt i m.moved)
    (λ t. h i (ltb-true _ _ t))
    (λ t. let k = ltb-false _ _ t in let e : i ≡ m.moved = omega (arith, k, l) in ap (λ j. is_some (decision_at rows j)) e ∙ ap (λ o. is_some o) d)

pub move_next : (rows : List Row) (m n : Marks) (v : Command) (e : ℕ × Option Entry) → AreMarks m → HaveMoved rows m → IsNext rows m v → m.entries.entries ≡ e ∷ n.entries.entries → n.moved ≡ m.moved + 1 → n.prefix ≡ m.prefix → HasMoved rows m n
move_next rows m n v e h moved next t c p =
    let k = m.moved in
    let x : Entry = record { instance = k; standing = Decided v } in
    let rest = n.entries.entries in
    let is : e ≡ (k, Some x) = same_Some e (k, Some x) (ap (λ (es : List (ℕ × Option Entry)). slice_get es 0) (sym t) ∙ next.first) in
    let tree : m.entries.entries ≡ (k, Some x) ∷ rest = t ∙ ap (λ (y : ℕ × Option Entry). y ∷ rest) is in
    let more : n.moved ≡ suc k = omega (arith, c) in
    let value : marked_in rows n ≡ marked_in rows m =
    ap (λ z. decided_entries rows 0 z ++ tree_in n) more ∙ decided_push rows 0 k v (tree_in n) (ap (decision_at rows) (let a : 0 + k ≡ k = omega arith in a) ∙ next.row)
    ∙ ap (λ z. decided_entries rows 0 k ++ record { instance = z; standing = Decided v } ∷ tree_in n) (let a : 0 + k ≡ k = omega arith in a)
    ∙ ap (λ (es : List (ℕ × Option Entry)). decided_entries rows 0 k ++ entries_in (filled es)) (sym tree) in
    let entered : AreEntered ((k, x) ∷ filled rest) = subst (λ (es : List (ℕ × Option Entry)). AreEntered (filled es)) tree h.entered in
    let behind : AscendsFrom k (x ∷ entries_in (filled rest)) = subst (λ (es : List (ℕ × Option Entry)). AscendsFrom k (entries_in (filled es))) tree h.behind in
    let here_first : standing_in (tree_in m) k ≡ Some (Decided v) = ap (λ (es : List (ℕ × Option Entry)). standing_in (entries_in (filled es)) k) tree ∙ here x (entries_in (filled rest)) in
    let low : k < 1048576 =
    by_bool (nat_lt k 1048576) (λ b. ltb-true _ _ b) (λ b. absurd (none-some (Decided v) (sym (h.instances k (ltb-false _ _ b)) ∙ here_first))) in
    record {
      value = value;
      marks = record {
        moved = let b = next.below in omega (arith, c, p, b);
        small = omega (arith, c, low);
        entered = entered.1;
        behind = subst (λ z. AscendsFrom z (entries_in (filled rest))) (sym c) behind.1;
        instances = λ i l. let o : (k == i) ≡ false = ne_eqb _ _ (λ y. omega (arith, y, l, low)) in sym (over x (entries_in (filled rest)) i o) ∙ ap (λ (es : List (ℕ × Option Entry)). standing_in (entries_in (filled es)) i) (sym tree) ∙ h.instances i l;
      };
      moved = λ i l. moved_more rows m v moved next.row i (omega (arith, l, c));
      places = λ i. ap (λ z. nat_lt i z || has_place nat_cmp rest i) c ∙ place_by i k (Some x) rest (k == i) refl
          ∙ ap (λ (es : List (ℕ × Option Entry)). nat_lt i k || has_place nat_cmp es i) (sym tree);
    }

-- no instance at 1,048,576 or above is promised anything
pub marked_low : (rows : List Row) (m : Marks) → AreMarks m → (i : ℕ) → 1048576 ≤ i → standing_in (marked_in rows m) i ≡ None
marked_low rows m h i l = let s = h.small in stands_behind rows m i (omega (arith, s, l)) ∙ h.instances i l

pub decided_low : (rows : List Row) (m : Marks) (i : ℕ) (v : Command) → AreMarks m → standing_in (marked_in rows m) i ≡ Some (Decided v) → i < 1048576
decided_low rows m i v h d =
    by_bool (nat_lt i 1048576) (λ b. ltb-true _ _ b) (λ b. absurd (none-some (Decided v) (sym (marked_low rows m h i (ltb-false _ _ b)) ∙ d)))

-- the prefix counted on by the tree
pub counted_on : (rows : List Row) (m : Marks) (end : ℕ) → AreMarks m → IsBegun rows m → m.prefix ≤ end → ((i : ℕ) → m.prefix ≤ i → i < end → is_some (decided_in (tree_in m) i) ≡ true) → decided_in (tree_in m) end ≡ None → end ≡ length (decided_from 0 (marked_in rows m))
counted_on rows m end h begun l more none =
    let k = h.moved in
    prefix_is (marked_in rows m) end (ascending rows m h)
    (λ i b. by_bool (nat_lt i m.prefix)
    (λ t. begun i (ltb-true _ _ t))
    (λ t. let p = ltb-false _ _ t in ap (λ s. is_some (decision_of s)) (stands_behind rows m i (omega (arith, k, p))) ∙ more i p b))
    (ap decision_of (stands_behind rows m end (omega (arith, k, l))) ∙ none)

-- facts about instances of the counted prefix change nothing in the end
pub skipped : (rows : List Row) (m : Marks) (facts : List Fact) → AreMarks m → IsCounted rows m → KeepsPromised (marked_in rows m) (take_on_all (marked_in rows m) facts) → take_on_all (marked_in rows m) (facts_from m.prefix facts) ≡ take_on_all (marked_in rows m) facts
skipped rows m facts h counted keeps =
    let asc = ascending rows m h in
    facts_skipped (marked_in rows m) facts m.prefix asc (λ i l. prefix_decided (marked_in rows m) i asc (let e = counted.count in omega (arith, e, l))) keeps

pub promise_ascends : (rows : List Row) (m : Marks) (es : List Entry) → AreMarks m → es ≡ marked_in rows m → IsAscending es
promise_ascends rows m es h e = record { ascends = subst (AscendsFrom 0) (sym e) (ascending rows m h) }
