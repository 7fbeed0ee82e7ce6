-- Entries at their instances: what a look-up finds, an entry set, and the decided prefix.
use Rattle.std.proofs.Common.{◌≡◌, ℕ, zero, suc, ◌+◌, ◌<◌, ◌≤◌, Bool, true, false, ◌==◌, nat_lt, if◌then◌else◌, List, [], ◌∷◌, ◌++◌, length, Option, None, Some, option_map, is_some, refl, ap, sym, ◌∙◌, arith, subst, eqb-true, append_assoc, append-nil, get_or, drop}
use Rattle.std.specs.Prelude.{slice_get}
use Rattle.std.specs.Ordering.{nat_cmp}
use Rattle.std.specs.BTreeMap.{insert_entry, is_at}
use Rattle.std.specs.Map.{lookup}
use Rattle.std.proofs.lemmas.Bool.{ne_eqb, eq-eqb, lt-ltb, le-ltb, ltb-true, ltb-false, eqb-false}
use Rattle.std.proofs.lemmas.List.{drop_all, drop_more}
use Rattle.std.proofs.lemmas.Option.{none-some, same_Some}
use Rattle.rr_types.specs.declared.command.Command.{Command}
use Rattle.rr_types.specs.declared.fact.Fact.{Fact}
use Rattle.rr_types.specs.declared.fact.Fact.TheVariants.{Enter, Propose, Adopt, Decide}
use Rattle.rr_types.specs.declared.promise.Standing.{Standing}
use Rattle.rr_types.specs.declared.promise.Standing.TheVariants.{Decided, Open}
use Rattle.rr_types.specs.declared.promise.Entry.{Entry}
use Rattle.rr_types.specs.Facts.{instance_of, after_fact, decision_of}
use Rattle.rr_types.specs.Standings.{standing_from}
use Rattle.rr_types.specs.Promises.{AscendsFrom, standing_in, set_entry, take_on, take_on_all, decided_from}
use Rattle.rr_model.proofs.Promised.{standing_in-set_entry, standing_in-take_on_all}
use Rattle.rr_state.specs.Listed.{KeepsPromised}
use Rattle.rr_state.specs.Marked.{entries_in, AreEntered, decision_after, decided_by}
use Rattle.rr_state.proofs.TableLemmas.{eq_nat_cmp}

-- where an entry stands, if there is one
abbrev pub stands : Option Entry → Option Standing
stands o = option_map (λ e. e.standing) o

standing_by : (e : ℕ × Entry) (es : List (ℕ × Entry)) (i : ℕ) → e.0 ≡ e.1.instance → standing_in (entries_in es) i ≡ stands (lookup (is_at (nat_cmp i)) es) → (b : Bool) → (e.1.instance == i) ≡ b → standing_in (entries_in (e ∷ es)) i ≡ stands (lookup (is_at (nat_cmp i)) (e ∷ es))
standing_by e es i k more true h = rw (eq_nat_cmp i e.0, k, h)
standing_by e es i k more false h = rw (eq_nat_cmp i e.0, k, h) more

-- where an instance stands is what a look-up finds
pub standing_at : (es : List (ℕ × Entry)) (i : ℕ) → AreEntered es → standing_in (entries_in es) i ≡ stands (lookup (is_at (nat_cmp i)) es)
standing_at [] i h = refl
standing_at (e ∷ es) i h = standing_by e es i h.0 (standing_at es i h.1) (e.1.instance == i) refl

instance_by : (e : ℕ × Entry) (es : List (ℕ × Entry)) (i : ℕ) (x : Entry) → e.0 ≡ e.1.instance → (lookup (is_at (nat_cmp i)) es ≡ Some x → i ≡ x.instance) → lookup (is_at (nat_cmp i)) (e ∷ es) ≡ Some x → (b : Bool) → (e.0 == i) ≡ b → i ≡ x.instance
instance_by e es i x k more t true h =
    let same : e.1 ≡ x = same_Some e.1 x (rw (eq_nat_cmp i e.0, h) at t) in
    sym (eqb-true e.0 i h) ∙ k ∙ ap (λ (y : Entry). y.instance) same
instance_by e es i x k more t false h = more (rw (eq_nat_cmp i e.0, h) at t)

-- and what it finds is at its instance
pub instance_at : (es : List (ℕ × Entry)) (i : ℕ) (x : Entry) → AreEntered es → lookup (is_at (nat_cmp i)) es ≡ Some x → i ≡ x.instance
instance_at [] i x h t = absurd (none-some x t)
instance_at (e ∷ es) i x h t = instance_by e es i x h.0 (instance_at es i x h.1) t (e.0 == i) refl

set_by : (x : Entry) (e : ℕ × Entry) (es : List (ℕ × Entry)) → e.0 ≡ e.1.instance → entries_in (insert_entry nat_cmp es x.instance x) ≡ set_entry x.instance x.standing (entries_in es) → (a b : Bool) → nat_lt x.instance e.1.instance ≡ a → (x.instance == e.1.instance) ≡ b → entries_in (insert_entry nat_cmp (e ∷ es) x.instance x) ≡ set_entry x.instance x.standing (entries_in (e ∷ es))
set_by x e es k more true b h i = rw (k, h)
set_by x e es k more false true h i = rw (k, h, i)
set_by x e es k more false false h i = rw (k, h, i) (ap (λ rs. e.1 ∷ rs) more)

-- an entry set at its instance is set among the entries
set_at : (x : Entry) (es : List (ℕ × Entry)) → AreEntered es → entries_in (insert_entry nat_cmp es x.instance x) ≡ set_entry x.instance x.standing (entries_in es)
set_at x [] h = refl
set_at x (e ∷ es) h = set_by x e es h.0 (set_at x es h.1) (nat_lt x.instance e.1.instance) (x.instance == e.1.instance) refl refl

pub set_entry_at : (x : Entry) (i : ℕ) (es : List (ℕ × Entry)) → AreEntered es → i ≡ x.instance → entries_in (insert_entry nat_cmp es i x) ≡ set_entry x.instance x.standing (entries_in es)
set_entry_at x i es h e = rw e (set_at x es h)

entered_by : (x : Entry) (e : ℕ × Entry) (es : List (ℕ × Entry)) → AreEntered (e ∷ es) → AreEntered (insert_entry nat_cmp es x.instance x) → (a b : Bool) → nat_lt x.instance e.0 ≡ a → (x.instance == e.0) ≡ b → AreEntered (insert_entry nat_cmp (e ∷ es) x.instance x)
entered_by x e es k more true b h i = rw h (refl, (k.0, k.1))
entered_by x e es k more false true h i = rw (h, i) (sym (eqb-true x.instance e.0 i), k.1)
entered_by x e es k more false false h i = rw (h, i) (k.0, more)

entered_set : (x : Entry) (es : List (ℕ × Entry)) → AreEntered es → AreEntered (insert_entry nat_cmp es x.instance x)
entered_set x [] h = (refl, tt)
entered_set x (e ∷ es) h = entered_by x e es h (entered_set x es h.1) (nat_lt x.instance e.0) (x.instance == e.0) refl refl

pub entered_at : (x : Entry) (i : ℕ) (es : List (ℕ × Entry)) → AreEntered es → i ≡ x.instance → AreEntered (insert_entry nat_cmp es i x)
entered_at x i es h e = rw e (entered_set x es h)

ascend_by : (low i : ℕ) (s : Standing) (e : Entry) (es : List Entry) → AscendsFrom low (e ∷ es) → low < i + 1 → (e.instance + 1 < i + 1 → AscendsFrom (e.instance + 1) (set_entry i s es)) → (a b : Bool) → nat_lt i e.instance ≡ a → (i == e.instance) ≡ b → AscendsFrom low (set_entry i s (e ∷ es))
ascend_by low i s e es h l more true b x y = let k = ltb-true _ _ x in rw x (l, (omega arith, h.1))
ascend_by low i s e es h l more false true x y =
    let same : i ≡ e.instance = eqb-true i e.instance y in
    rw (x, y) (l, subst (λ z. AscendsFrom (z + 1) es) (sym same) h.1)
ascend_by low i s e es h l more false false x y =
    let p = ltb-false _ _ x in
    let q : i ≡ e.instance → ⊥ = eqb-false _ _ y in
    rw (x, y) (h.0, more (omega (arith, p, q)))

-- an entry set leaves the entries ascending
pub ascend_set : (low i : ℕ) (s : Standing) (es : List Entry) → AscendsFrom low es → low < i + 1 → AscendsFrom low (set_entry i s es)
ascend_set low i s [] h l = (l, tt)
ascend_set low i s (e ∷ es) h l = ascend_by low i s e es h l (ascend_set (e.instance + 1) i s es h.1) (nat_lt i e.instance) (i == e.instance) refl refl

-- an entry set below 1,048,576
pub instances_set : (i : ℕ) (s : Standing) (es : List Entry) → i < 1048576 → ((j : ℕ) → 1048576 ≤ j → standing_in es j ≡ None) → (j : ℕ) → 1048576 ≤ j → standing_in (set_entry i s es) j ≡ None
instances_set i s es l h j m = let e : (i == j) ≡ false = ne_eqb _ _ (λ x. omega (arith, x)) in standing_in-set_entry i s es j ∙ rw e (h j m)

-- a fact about an instance that stands somewhere leaves it somewhere
some_after : (s : Standing) (f : Fact) → is_some (after_fact (Some s) f) ≡ true
some_after s (Enter i e) = refl
some_after (Decided w) (Propose i r v) = refl
some_after (Open o) (Propose i r v) = refl
some_after (Decided w) (Adopt i r v) = refl
some_after (Open o) (Adopt i r v) = refl
some_after s (Decide i v) = refl

some_from : (o : Option Standing) (i : ℕ) (facts : List Fact) → is_some o ≡ true → is_some (standing_from o i facts) ≡ true
some_from None i facts h = cc
some_from (Some s) i [] h = refl
some_from (Some s) i (f ∷ fs) h = at (instance_of f == i) refl (some_from (after_fact (Some s) f) i fs (some_after s f)) (some_from (Some s) i fs refl)
  where
    at : (b : Bool) → (instance_of f == i) ≡ b → is_some (standing_from (after_fact (Some s) f) i fs) ≡ true → is_some (standing_from (Some s) i fs) ≡ true → is_some (standing_from (if b then after_fact (Some s) f else Some s) i fs) ≡ true
    at true e x y = x
    at false e x y = y

pub none_is : {A : Type 0} (o : Option A) → o ≡ None → is_some o ≡ true → ⊥
none_is None h t = cc
none_is (Some x) h t = cc

-- an instance of which nothing is promised after more facts has nothing promised before them
pub none_before : (es : List Entry) (facts : List Fact) (i : ℕ) → standing_in (take_on_all es facts) i ≡ None → standing_in es i ≡ None
none_before es facts i h = at (standing_in es i) refl
  where
    at : (o : Option Standing) → standing_in es i ≡ o → o ≡ None
    at None e = refl
    at (Some s) e = absurd (none_is (standing_from (standing_in es i) i facts) (sym (standing_in-take_on_all es facts i) ∙ h) (some_from (standing_in es i) i facts (ap (λ o. is_some o) e)))

standing_taken : (es : List Entry) (f : Fact) (o : Option Standing) → after_fact (standing_in es (instance_of f)) f ≡ o → standing_in (take_on es f) (instance_of f) ≡ o
standing_taken es f None h = at (standing_in es (instance_of f)) refl
  where
    none_after : (s : Option Standing) → after_fact s f ≡ None → s ≡ None
    none_after None e = refl
    none_after (Some s) e = absurd (none_is (after_fact (Some s) f) e (some_after s f))

    at : (s : Option Standing) → standing_in es (instance_of f) ≡ s → standing_in (take_on es f) (instance_of f) ≡ None
    at s e = rw h (none_after (standing_in es (instance_of f)) h)
standing_taken es f (Some s) h = let same : (instance_of f == instance_of f) ≡ true = eq-eqb _ _ refl in rw h (standing_in-set_entry (instance_of f) s es (instance_of f) ∙ rw same)

-- a fact promises nothing of an instance of which nothing is promised in the end
pub none_taken : (es : List Entry) (f : Fact) (rest : List Fact) → standing_in (take_on_all (take_on es f) rest) (instance_of f) ≡ None → after_fact (standing_in es (instance_of f)) f ≡ None
none_taken es f rest h = sym (standing_taken es f (after_fact (standing_in es (instance_of f)) f) refl) ∙ none_before (take_on es f) rest (instance_of f) h

-- what has been decided by facts
decision_by : (s : Option Standing) (f : Fact) → decision_of (after_fact s f) ≡ decision_after (decision_of s) f
decision_by s (Enter i e) = refl
decision_by None (Propose i r v) = refl
decision_by (Some (Decided w)) (Propose i r v) = refl
decision_by (Some (Open o)) (Propose i r v) = refl
decision_by None (Adopt i r v) = refl
decision_by (Some (Decided w)) (Adopt i r v) = refl
decision_by (Some (Open o)) (Adopt i r v) = refl
decision_by s (Decide i v) = refl

decided_from_facts : (s : Option Standing) (i : ℕ) (facts : List Fact) → decision_of (standing_from s i facts) ≡ decided_by (decision_of s) i facts
decided_from_facts s i [] = refl
decided_from_facts s i (f ∷ fs) = at (instance_of f == i) (decided_from_facts (after_fact s f) i fs) (decided_from_facts s i fs)
  where
    at : (b : Bool) → decision_of (standing_from (after_fact s f) i fs) ≡ decided_by (decision_of (after_fact s f)) i fs → decision_of (standing_from s i fs) ≡ decided_by (decision_of s) i fs → decision_of (standing_from (if b then after_fact s f else s) i fs) ≡ decided_by (if b then decision_after (decision_of s) f else decision_of s) i fs
    at true x y = x ∙ ap (λ d. decided_by d i fs) (decision_by s f)
    at false x y = y

pub decided_after : (es : List Entry) (facts : List Fact) (i : ℕ) → decision_of (standing_in es i) ≡ None → decision_of (standing_in (take_on_all es facts) i) ≡ decided_by None i facts
decided_after es facts i h = ap decision_of (standing_in-take_on_all es facts i) ∙ decided_from_facts (standing_in es i) i facts ∙ ap (λ d. decided_by d i facts) h

-- the entries from instance k on
abbrev pub above : ℕ → List Entry → List Entry
above k [] = []
above k (e ∷ es) = if nat_lt e.instance k then above k es else e ∷ es

-- the commands decided without a gap from instance k on
abbrev pub run_from : List Entry → ℕ → List Command
run_from es k = decided_from k (above k es)

abbrev pub decided_in : List Entry → ℕ → Option Command
decided_in es k = decision_of (standing_in es k)

above_all : (k : ℕ) (es : List Entry) → AscendsFrom k es → above k es ≡ es
above_all k [] h = refl
above_all k (e ∷ es) h = let l = h.0 in let o : nat_lt e.instance k ≡ false = le-ltb _ _ (omega arith) in rw o

pub none_below : (low : ℕ) (es : List Entry) (i : ℕ) → AscendsFrom low es → i < low → standing_in es i ≡ None
none_below low [] i h l = refl
none_below low (e ∷ es) i h l = let k = h.0 in let o : (e.instance == i) ≡ false = ne_eqb _ _ (λ x. omega (arith, x)) in rw o (none_below (e.instance + 1) es i h.1 (omega arith))

-- the run from an instance on, by its own decision
abbrev pub FollowsBy : List Entry → ℕ → Option Command → Type 0
FollowsBy es k None = run_from es k ≡ []
FollowsBy es k (Some v) = run_from es k ≡ v ∷ run_from es (k + 1)

run_past : (k : ℕ) (e : Entry) (es : List Entry) → nat_lt e.instance k ≡ true → (o : Option Command) → FollowsBy es k o → FollowsBy (e ∷ es) k o
run_past k e es l None h = rw l h
run_past k e es l (Some v) h = let m = ltb-true _ _ l in let n : nat_lt e.instance (k + 1) ≡ true = lt-ltb _ _ (omega arith) in rw (l, n) h

run_here : (k : ℕ) (e : Entry) (es : List Entry) → nat_lt e.instance k ≡ false → (e.instance == k) ≡ true → AscendsFrom (e.instance + 1) es → (s : Standing) → e.standing ≡ s → FollowsBy (e ∷ es) k (decision_of (Some s))
run_here k e es l same h (Open o) at = rw (l, same, at) refl
run_here k e es l same h (Decided v) at =
    let is : e.instance ≡ k = eqb-true e.instance k same in
    let n : nat_lt e.instance (k + 1) ≡ true = lt-ltb _ _ (omega (arith, is)) in
    let all : above (k + 1) es ≡ es = above_all (k + 1) es (subst (λ z. AscendsFrom (z + 1) es) is h) in
    rw (l, same, at, n, all) refl

run_over : (k : ℕ) (e : Entry) (es : List Entry) → nat_lt e.instance k ≡ false → (e.instance == k) ≡ false → FollowsBy (e ∷ es) k None
run_over k e es l o = rw (l, o) refl

run_by : (low k : ℕ) (e : Entry) (es : List Entry) → AscendsFrom low (e ∷ es) → FollowsBy es k (decided_in es k) → (a b : Bool) → nat_lt e.instance k ≡ a → (e.instance == k) ≡ b → FollowsBy (e ∷ es) k (decided_in (e ∷ es) k)
run_by low k e es h more true b l s =
    let m = ltb-true _ _ l in
    let o : (e.instance == k) ≡ false = ne_eqb _ _ (λ x. omega (arith, x)) in
    subst (λ d. FollowsBy (e ∷ es) k d) (sym (ap (λ (t : Bool). decision_of (if t then Some e.standing else standing_in es k)) o)) (run_past k e es l (decided_in es k) more)
run_by low k e es h more false true l s =
    subst (λ d. FollowsBy (e ∷ es) k d) (sym (ap (λ (t : Bool). decision_of (if t then Some e.standing else standing_in es k)) s)) (run_here k e es l s h.1 e.standing refl)
run_by low k e es h more false false l s =
    let m = ltb-false _ _ l in
    let q : e.instance ≡ k → ⊥ = eqb-false _ _ s in
    let none : standing_in es k ≡ None = none_below (e.instance + 1) es k h.1 (omega (arith, m, q)) in
    subst (λ d. FollowsBy (e ∷ es) k d) (sym (ap (λ (t : Bool). decision_of (if t then Some e.standing else standing_in es k)) s ∙ ap decision_of none)) (run_over k e es l s)

pub run_follows : (low k : ℕ) (es : List Entry) → AscendsFrom low es → FollowsBy es k (decided_in es k)
run_follows low k [] h = refl
run_follows low k (e ∷ es) h = run_by low k e es h (run_follows (e.instance + 1) k es h.1) (nat_lt e.instance k) (e.instance == k) refl refl

pub run_end : (es : List Entry) (k : ℕ) → AscendsFrom 0 es → decided_in es k ≡ None → run_from es k ≡ []
run_end es k h e = subst (λ d. FollowsBy es k d) e (run_follows 0 k es h)

pub run_more : (es : List Entry) (k : ℕ) (v : Command) → AscendsFrom 0 es → decided_in es k ≡ Some v → run_from es k ≡ v ∷ run_from es (k + 1)
run_more es k v h e = subst (λ d. FollowsBy es k d) e (run_follows 0 k es h)

-- the run from instance 0 on is the decided prefix
pub run_all : (es : List Entry) → AscendsFrom 0 es → run_from es 0 ≡ decided_from 0 es
run_all es h = ap (decided_from 0) (above_all 0 es h)

pub some_or : {A Z : Type 0} (o : Option A) → (o ≡ None → Z) → ((x : A) → o ≡ Some x → Z) → Z
some_or None f g = f refl
some_or (Some x) f g = g x refl

-- as long as each place is decided
pub run_length : (es : List Entry) → AscendsFrom 0 es → (n k : ℕ) → ((i : ℕ) → k ≤ i → i < k + n → is_some (decided_in es i) ≡ true) → length (run_from es k) ≡ n + length (run_from es (k + n))
run_length es h zero k d =
    let e : k + 0 ≡ k = omega arith in
    let x : length (run_from es k) ≡ length (run_from es (k + 0)) = ap (λ z. length (run_from es z)) (sym e) in
    omega arith
run_length es h (suc n) k d =
    let more = run_length es h n (k + 1) (λ i l m. d i (omega arith) (omega arith)) in
    some_or (decided_in es k)
    (λ e. absurd (none_is (decided_in es k) e (d k (omega arith) (omega arith))))
    (λ v e.
    let x : length (run_from es k) ≡ suc (length (run_from es (k + 1))) = ap (λ (l : List Command). length l) (run_more es k v h e) in
    let y : k + 1 + n ≡ k + suc n = omega arith in
    let z : length (run_from es (k + 1)) ≡ n + length (run_from es (k + suc n)) = more ∙ ap (λ w. n + length (run_from es w)) y in
    omega arith)

-- the prefix ends at the first undecided place
pub prefix_is : (es : List Entry) (p : ℕ) → AscendsFrom 0 es → ((i : ℕ) → i < p → is_some (decided_in es i) ≡ true) → decided_in es p ≡ None → p ≡ length (decided_from 0 es)
prefix_is es p h d e =
    let o : 0 + p ≡ p = omega arith in
    let x : length (run_from es 0) ≡ p + length (run_from es p) = run_length es h p 0 (λ i l m. d i (omega arith)) ∙ ap (λ w. p + length (run_from es w)) o in
    let y : length (run_from es p) ≡ 0 = ap (λ (l : List Command). length l) (run_end es p h e) in
    let z : length (run_from es 0) ≡ length (decided_from 0 es) = ap (λ (l : List Command). length l) (run_all es h) in
    omega arith

get_by : (es : List Entry) → AscendsFrom 0 es → (k n : ℕ) (v : Command) → decided_in es k ≡ Some v → (n < length (run_from es k)) → ((m : ℕ) → n ≡ suc m → slice_get (run_from es (k + 1)) m ≡ decided_in es (k + 1 + m)) → slice_get (run_from es k) n ≡ decided_in es (k + n)
get_by es h k zero v e l more = let z : k + 0 ≡ k = omega arith in rw (z, e) (ap (λ (c : List Command). slice_get c 0) (run_more es k v h e))
get_by es h k (suc n) v e l more =
    let y : k + 1 + n ≡ k + suc n = omega arith in
    ap (λ (c : List Command). slice_get c (suc n)) (run_more es k v h e) ∙ more n refl ∙ ap (decided_in es) y

longer : (es : List Entry) → AscendsFrom 0 es → (k : ℕ) (v : Command) → decided_in es k ≡ Some v → length (run_from es k) ≡ suc (length (run_from es (k + 1)))
longer es h k v e = ap (λ (c : List Command). length c) (run_more es k v h e)

ended : (es : List Entry) → AscendsFrom 0 es → (k n : ℕ) → decided_in es k ≡ None → n < length (run_from es k) → ⊥
ended es h k n e l = let x : length (run_from es k) ≡ 0 = ap (λ (c : List Command). length c) (run_end es k h e) in omega arith

-- the command at a place of the run
run_get_within : (es : List Entry) → AscendsFrom 0 es → (most n k : ℕ) → n ≤ most → n < length (run_from es k) → slice_get (run_from es k) n ≡ decided_in es (k + n)
run_get_within es h zero n k m l =
    some_or (decided_in es k) (λ e. absurd (ended es h k n e l)) (λ v e. get_by es h k n v e l (λ j x. absurd (omega (arith, x))))
run_get_within es h (suc most) n k m l =
    some_or (decided_in es k) (λ e. absurd (ended es h k n e l))
    (λ v e. get_by es h k n v e l (λ j x. let o = longer es h k v e in run_get_within es h most j (k + 1) (omega (arith, x)) (omega (arith, x))))

pub command_in : (es : List Entry) (n : ℕ) → AscendsFrom 0 es → n < length (decided_from 0 es) → slice_get (decided_from 0 es) n ≡ decided_in es n
command_in es n h l =
    let x : length (run_from es 0) ≡ length (decided_from 0 es) = ap (λ (c : List Command). length c) (run_all es h) in
    let o : 0 + n ≡ n = omega arith in
    sym (ap (λ (c : List Command). slice_get c n) (run_all es h)) ∙ run_get_within es h n n 0 (omega arith) (omega arith) ∙ ap (decided_in es) o

got : {A : Type 0} (xs : List A) (n : ℕ) → n < length xs → is_some (slice_get xs n) ≡ true
got [] n l = absurd (omega arith)
got (x ∷ xs) zero l = refl
got (x ∷ xs) (suc n) l = got xs n (omega arith)

-- each place of the prefix is decided, and stays so
pub prefix_decided : (es : List Entry) (n : ℕ) → AscendsFrom 0 es → n < length (decided_from 0 es) → is_some (decided_in es n) ≡ true
prefix_decided es n h l = ap (λ o. is_some o) (sym (command_in es n h l)) ∙ got (decided_from 0 es) n l

pub prefix_stays : (es after : List Entry) (n : ℕ) → AscendsFrom 0 es → KeepsPromised es after → n < length (decided_from 0 es) → is_some (decided_in after n) ≡ true
prefix_stays es after n h k l =
    some_or (decided_in es n) (λ e. absurd (none_is (decided_in es n) e (prefix_decided es n h l)))
    (λ v e. ap (λ o. is_some o) (k n v e))

nil_of : {A : Type 0} (xs : List A) → length xs ≡ 0 → xs ≡ []
nil_of [] h = refl
nil_of (x ∷ xs) h = absurd (omega arith)

-- the run of more entries that keep what is decided goes on where it ended
run_grows : (es after : List Entry) → AscendsFrom 0 es → AscendsFrom 0 after → KeepsPromised es after → (n k : ℕ) → length (run_from es k) ≡ n → run_from after k ≡ run_from es k ++ run_from after (k + n)
run_grows es after h g keeps zero k l =
    let o : k + 0 ≡ k = omega arith in
    ap (run_from after) (sym o) ∙ sym (ap (λ c. c ++ run_from after (k + 0)) (nil_of (run_from es k) l))
run_grows es after h g keeps (suc n) k l =
    let more = run_grows es after h g keeps n (k + 1) in
    some_or (decided_in es k) (λ e. absurd (ended es h k 0 e (omega (arith, l))))
    (λ v e.
    let o : length (run_from es (k + 1)) ≡ n = (let x = longer es h k v e in omega (arith, l)) in
    let y : k + 1 + n ≡ k + suc n = omega arith in
    run_more after k v g (keeps k v e) ∙ ap (λ c. v ∷ c) (more o ∙ ap (λ w. run_from es (k + 1) ++ run_from after w) y)
    ∙ ap (λ c. c ++ run_from after (k + suc n)) (sym (run_more es k v h e)))

pub prefix_grows : (es after : List Entry) (p : ℕ) → AscendsFrom 0 es → AscendsFrom 0 after → KeepsPromised es after → p ≡ length (decided_from 0 es) → decided_from 0 after ≡ decided_from 0 es ++ run_from after p
prefix_grows es after p h g keeps e =
    let l : length (run_from es 0) ≡ p = ap (λ (c : List Command). length c) (run_all es h) ∙ sym e in
    let o : 0 + p ≡ p = omega arith in
    sym (run_all after g) ∙ run_grows es after h g keeps p 0 l ∙ ap (λ c. c ++ run_from after (0 + p)) (run_all es h) ∙ ap (λ w. decided_from 0 es ++ run_from after w) o

-- what is found before one more command, and before none
pub found_more : (after : List Entry) (found : List Command) (k : ℕ) (v : Command) → AscendsFrom 0 after → Some v ≡ decided_in after k → (found ++ v ∷ []) ++ run_from after (k + 1) ≡ found ++ run_from after k
found_more after found k v h e = append_assoc found (v ∷ []) (run_from after (k + 1)) ∙ ap (λ c. found ++ c) (sym (run_more after k v h (sym e)))

pub found_all : (after : List Entry) (found : List Command) (k : ℕ) → AscendsFrom 0 after → None ≡ decided_in after k → found ++ run_from after k ≡ found
found_all after found k h e = ap (λ c. found ++ c) (run_end after k h (sym e)) ∙ append-nil found

-- the facts from place k on
pub facts_at : (fs : List Fact) (k : ℕ) (f : Fact) → k < length fs → f ≡ get_or fs k f → drop k fs ≡ f ∷ drop (k + 1) fs
facts_at fs k f l g = drop_more fs k f l ∙ ap (λ (x : Fact). x ∷ drop (k + 1) fs) (sym g)

pub take_on_end : (es : List Entry) (fs : List Fact) (k : ℕ) → length fs ≤ k → take_on_all es (drop k fs) ≡ es
take_on_end es fs k l = ap (λ (r : List Fact). take_on_all es r) (drop_all k fs l)

pub decided_more : (d : Option Command) (i : ℕ) (fs : List Fact) (k : ℕ) (f : Fact) → k < length fs → f ≡ get_or fs k f → decided_by d i (drop k fs) ≡ decided_by (if instance_of f == i then decision_after d f else d) i (drop (k + 1) fs)
decided_more d i fs k f l g = ap (λ (r : List Fact). decided_by d i r) (facts_at fs k f l g)

pub decided_end : (d : Option Command) (i : ℕ) (fs : List Fact) (k : ℕ) → length fs ≤ k → decided_by d i (drop k fs) ≡ d
decided_end d i fs k l = ap (λ (r : List Fact). decided_by d i r) (drop_all k fs l)

take_by : (es : List Entry) (f : Fact) (o : Option Standing) → after_fact (standing_in es (instance_of f)) f ≡ o → AscendsFrom 0 es → AscendsFrom 0 (take_on es f)
take_by es f None e h = rw e h
take_by es f (Some s) e h = rw e (ascend_set 0 (instance_of f) s es h (omega arith))

-- facts leave the entries ascending
pub ascend_all : (es : List Entry) (facts : List Fact) → AscendsFrom 0 es → AscendsFrom 0 (take_on_all es facts)
ascend_all es [] h = h
ascend_all es (f ∷ fs) h = ascend_all (take_on es f) fs (take_by es f (after_fact (standing_in es (instance_of f)) f) refl h)

pub undecided_none : {A : Type 0} (o : Option A) (b : Bool) → b ≡ is_some o → b ≡ false → o ≡ None
undecided_none None b h t = refl
undecided_none (Some x) b h t = cc

-- the instance behind the decided prefix hasn't decided
pub prefix_open : (es : List Entry) (p : ℕ) → AscendsFrom 0 es → p ≡ length (decided_from 0 es) → decided_in es p ≡ None
prefix_open es p h e =
    some_or (decided_in es p) (λ n. n)
    (λ v d.
    let all : length (run_from es 0) ≡ length (decided_from 0 es) = ap (λ (r : List Command). length r) (run_all es h) in
    let run : length (run_from es 0) ≡ p + length (run_from es p) = run_length es h p 0 (λ i a l. prefix_decided es i h (omega (arith, e, l))) ∙ ap (λ k. p + length (run_from es k)) (omega arith) in
    let more : length (run_from es p) ≡ suc (length (run_from es (p + 1))) = longer es h p v d in
    absurd (omega (arith, e, all, run, more)))
