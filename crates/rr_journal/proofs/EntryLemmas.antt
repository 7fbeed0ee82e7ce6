-- Entries in two parts: those of the first instances without a gap, and those beyond, by their instances.
use Rattle.std.proofs.Common.{◌≡◌, ℕ, zero, suc, ◌+◌, ◌-◌, ◌<◌, ◌≤◌, true, false, eqb, ltb, List, [], ◌∷◌, ◌++◌, length, get_or, Some, option_map, is_some, Ordering, refl, sym, ap, ◌∙◌, subst, arith, inl, inr, append_assoc}
use Rattle.std.specs.Prelude.{slice_set, slice_get}
use Rattle.std.specs.declared.cmp.Ordering.TheVariants.{Less, Equal, Greater}
use Rattle.std.specs.Ordering.{nat_cmp}
use Rattle.std.specs.BTreeMap.{insert_entry, is_at}
use Rattle.std.specs.Map.{lookup, values_of}
use Rattle.std.proofs.lemmas.Cmp.{ranked}
use Rattle.std.proofs.lemmas.Bool.{cases_lt, cases_eq, ne_eqb, eq-eqb, lt-ltb, le-ltb}
use Rattle.std.proofs.lemmas.Option.{same_Some}
use Rattle.rr_types.specs.declared.promise.Entry.{Entry}
use Rattle.rr_types.specs.declared.promise.Standing.{Standing}
use Rattle.rr_types.specs.Promises.{IsAscending, AscendsFrom, standing_in, set_entry}
use Rattle.rr_journal.specs.Entries.{AreFirst, AreEntered, AreParted, IsFirst}

abbrev pub entry_of : ℕ → Standing → Entry
entry_of i s = record { instance = i; standing = s }

-- ---- the vector

-- an instance of the vector stands there
low_stands : (i k : ℕ) (front es : List Entry) (d : Entry) → AreFirst i front → i ≤ k → k < i + length front → standing_in (front ++ es) k ≡ Some (get_or front (k - i) d).standing
low_stands i k [] es d first from to = absurd (omega arith)
low_stands i k (x ∷ xs) es d first from to = elim (cases_eq x.instance k) [
  | inl same ↦
      let here : k - i ≡ 0 = omega (arith, first.0, same) in
      rw (eq-eqb x.instance k same, here) refl
  | inr other ↦
      let is = first.0 in
      let there : k - i ≡ suc (k - (i + 1)) = omega (arith, is, other) in
      rw (ne_eqb x.instance k other, there) (low_stands (i + 1) k xs es d first.1 (omega (arith, is, other)) (omega arith))
]

pub stands_low : (k : ℕ) (front es : List Entry) (d : Entry) → AreFirst 0 front → k < length front → Some (get_or front k d).standing ≡ standing_in (front ++ es) k
stands_low k front es d first lt =
    let z : k - 0 ≡ k = omega arith in
    sym (low_stands 0 k front es d first (omega arith) (omega arith) ∙ ap (λ (n : ℕ). Some (get_or front n d).standing) z)

-- and another one beyond it
high_stands : (i k : ℕ) (front es : List Entry) → AreFirst i front → i + length front ≤ k → standing_in (front ++ es) k ≡ standing_in es k
high_stands i k [] es first le = refl
high_stands i k (x ∷ xs) es first le =
    let is = first.0 in
    rw (ne_eqb x.instance k (λ s. omega (arith, s, is))) (high_stands (i + 1) k xs es first.1 (omega arith))

low_set : (i k : ℕ) (s : Standing) (x : Entry) (front es : List Entry) → AreFirst i front → i ≤ k → k < i + length front → x ≡ record { instance = k; standing = s } → (set_entry k s (front ++ es) ≡ slice_set front (k - i) x ++ es) × AreFirst i (slice_set front (k - i) x)
low_set i k s x [] es first from to e = absurd (omega arith)
low_set i k s x (y ∷ ys) es first from to e = elim (cases_eq k y.instance) [
  | inl same ↦
      let is = first.0 in
      let here : k - i ≡ 0 = omega (arith, is, same) in
      let below : ltb k y.instance ≡ false = le-ltb _ _ (omega (arith, same)) in
      let at : x.instance ≡ i = omega (arith, ap (λ (z : Entry). z.instance) e, is, same) in
      rw (below, eq-eqb k y.instance same, here) (ap (λ (z : Entry). z ∷ (ys ++ es)) (sym e), (at, first.1))
  | inr other ↦
      let is = first.0 in
      let there : k - i ≡ suc (k - (i + 1)) = omega (arith, is, other) in
      let below : ltb k y.instance ≡ false = le-ltb _ _ (omega (arith, is, other)) in
      let rest = low_set (i + 1) k s x ys es first.1 (omega (arith, is, other)) (omega arith) e in
      rw (below, ne_eqb k y.instance other, there) (ap (λ (zs : List Entry). y ∷ zs) rest.0, (is, rest.1))
]

-- an entry was set, in the vector or in the tree
pub record IsSet (k : ℕ) (s : Standing) (front new : List Entry) (es rest : List (ℕ × Entry)) : Type 0 where
  pub same : new ++ values_of rest ≡ set_entry k s (front ++ values_of es)
  pub parted : AreParted new rest

length_set : (k : ℕ) (x : Entry) (front : List Entry) → length (slice_set front k x) ≡ length front
length_set k x [] = refl
length_set zero x (y ∷ ys) = refl
length_set (suc k) x (y ∷ ys) = ap (λ (n : ℕ). suc n) (length_set k x ys)

-- an entry of the vector is replaced there
pub set_low : (k : ℕ) (s : Standing) (x : Entry) (front new : List Entry) (es : List (ℕ × Entry)) → AreParted front es → k < length front → x ≡ record { instance = k; standing = s } → new ≡ slice_set front k x → IsSet k s front new es es
set_low k s x front new es parted lt e made =
    let z : k - 0 ≡ k = omega arith in
    let all = low_set 0 k s x front (values_of es) parted.first (omega arith) (omega arith) e in
    let to : slice_set front (k - 0) x ≡ new = ap (λ (n : ℕ). slice_set front n x) z ∙ sym made in
    let long : length new ≡ length front = ap (λ (ys : List Entry). length ys) made ∙ length_set k x front in
    record {
      same = sym (all.0 ∙ ap (λ (ys : List Entry). ys ++ values_of es) to);
      parted = record {
        first = subst (λ (ys : List Entry). AreFirst 0 ys) to all.1;
        entered = parted.entered;
        behind = subst (λ (n : ℕ). AscendsFrom n (values_of es)) (sym long) parted.behind;
      };
    }

-- and another one is put beyond it
high_set : (i k : ℕ) (s : Standing) (front es : List Entry) → AreFirst i front → i + length front ≤ k → set_entry k s (front ++ es) ≡ front ++ set_entry k s es
high_set i k s [] es first le = refl
high_set i k s (y ∷ ys) es first le =
    let is = first.0 in
    let below : ltb k y.instance ≡ false = le-ltb _ _ (omega (arith, is)) in
    let other : eqb k y.instance ≡ false = ne_eqb k y.instance (λ e. omega (arith, e, is)) in
    rw (below, other) (ap (λ (zs : List Entry). y ∷ zs) (high_set (i + 1) k s ys es first.1 (omega arith)))

first_push : (i : ℕ) (x : Entry) (front : List Entry) → AreFirst i front → x.instance ≡ i + length front → AreFirst i (front ++ x ∷ [])
first_push i x [] first is = (omega arith, tt)
first_push i x (y ∷ ys) first is = (first.0, first_push (i + 1) x ys first.1 (omega arith))

length_push : (x : Entry) (front : List Entry) → length (front ++ x ∷ []) ≡ length front + 1
length_push x [] = refl
length_push x (y ∷ ys) = let l = length_push x ys in omega (arith, l)

-- ---- the tree

tree_by : (e : ℕ × Entry) (es : List (ℕ × Entry)) (i : ℕ) → e.0 ≡ e.1.instance → standing_in (values_of es) i ≡ option_map (λ (x : Entry). x.standing) (lookup (is_at (nat_cmp i)) es) → (r : Ordering) → nat_cmp i e.0 ≡ r → standing_in (values_of (e ∷ es)) i ≡ option_map (λ (x : Entry). x.standing) (lookup (is_at (nat_cmp i)) (e ∷ es))
tree_by e es i k more Less r = let l : i < e.0 = ranked i e.0 Less (sym r) in rw (r, ne_eqb e.1.instance i (λ s. omega (arith, s, l, k))) more
tree_by e es i k more Equal r = let l : i ≡ e.0 = ranked i e.0 Equal (sym r) in rw (r, eq-eqb e.1.instance i (omega (arith, l, k))) refl
tree_by e es i k more Greater r = let l : e.0 < i = ranked i e.0 Greater (sym r) in rw (r, ne_eqb e.1.instance i (λ s. omega (arith, s, l, k))) more

-- where an instance stands is what a look-up finds
tree_stands : (es : List (ℕ × Entry)) (i : ℕ) → AreEntered es → standing_in (values_of es) i ≡ option_map (λ (x : Entry). x.standing) (lookup (is_at (nat_cmp i)) es)
tree_stands [] i h = refl
tree_stands (e ∷ es) i h = tree_by e es i h.0 (tree_stands es i h.1) (nat_cmp i e.0) refl

pub stands_high : (k : ℕ) (front : List Entry) (es : List (ℕ × Entry)) → AreParted front es → length front ≤ k → option_map (λ (x : Entry). x.standing) (lookup (is_at (nat_cmp k)) es) ≡ standing_in (front ++ values_of es) k
stands_high k front es parted le = sym (high_stands 0 k front (values_of es) parted.first (omega arith) ∙ tree_stands es k parted.entered)

-- an entry put at its instance
record IsPut (x : Entry) (es : List (ℕ × Entry)) : Type 0 where
  pub values : values_of (insert_entry nat_cmp es x.instance x) ≡ set_entry x.instance x.standing (values_of es)
  pub entered : AreEntered (insert_entry nat_cmp es x.instance x)

put_by : (x : Entry) (e : ℕ × Entry) (es : List (ℕ × Entry)) → AreEntered (e ∷ es) → IsPut x es → (r : Ordering) → nat_cmp x.instance e.0 ≡ r → IsPut x (e ∷ es)
put_by x e es k more Less r =
    let is = k.0 in
    let l : x.instance < e.0 = ranked x.instance e.0 Less (sym r) in
    let below : ltb x.instance e.1.instance ≡ true = lt-ltb _ _ (omega (arith, l, is)) in
    record { values = rw (r, below) refl; entered = rw r (refl, (is, k.1)) }
put_by x e es k more Equal r =
    let is = k.0 in
    let l : x.instance ≡ e.0 = ranked x.instance e.0 Equal (sym r) in
    let below : ltb x.instance e.1.instance ≡ false = le-ltb _ _ (omega (arith, l, is)) in
    let same : eqb x.instance e.1.instance ≡ true = eq-eqb _ _ (omega (arith, l, is)) in
    record { values = rw (r, below, same) refl; entered = rw r (sym l, k.1) }
put_by x e es k more Greater r =
    let is = k.0 in
    let l : e.0 < x.instance = ranked x.instance e.0 Greater (sym r) in
    let below : ltb x.instance e.1.instance ≡ false = le-ltb _ _ (omega (arith, l, is)) in
    let other : eqb x.instance e.1.instance ≡ false = ne_eqb _ _ (λ s. omega (arith, s, l, is)) in
    record { values = rw (r, below, other) (ap (λ (ys : List Entry). e.1 ∷ ys) more.values); entered = rw r (is, more.entered) }

put : (x : Entry) (es : List (ℕ × Entry)) → AreEntered es → IsPut x es
put x [] h = record { values = refl; entered = (refl, tt) }
put x (e ∷ es) h = put_by x e es h (put x es h.1) (nat_cmp x.instance e.0) refl

ascends_set : (low i : ℕ) (s : Standing) (es : List Entry) → low ≤ i → AscendsFrom low es → AscendsFrom low (set_entry i s es)
ascends_set low i s [] le up = (omega arith, tt)
ascends_set low i s (y ∷ es) le up = elim (cases_lt i y.instance) [
  | inl lt ↦ rw (lt-ltb i y.instance lt) (omega arith, (omega arith, up.1))
  | inr ge ↦ elim (cases_eq i y.instance) [
    | inl same ↦ rw (le-ltb i y.instance ge, eq-eqb i y.instance same) (omega arith, subst (λ (k : ℕ). AscendsFrom (k + 1) es) (sym same) up.1)
    | inr other ↦ rw (le-ltb i y.instance ge, ne_eqb i y.instance other) (up.0, ascends_set (y.instance + 1) i s es (omega arith) up.1)
  ]
]

-- an entry beyond the vector is put into the tree
pub put_beyond : (k : ℕ) (s : Standing) (x : Entry) (front : List Entry) (es new : List (ℕ × Entry)) → AreParted front es → length front ≤ k → x ≡ record { instance = k; standing = s } → new ≡ insert_entry nat_cmp es k x → IsSet k s front front es new
put_beyond k s x front es new parted le e made =
    let at : x.instance ≡ k = ap (λ (z : Entry). z.instance) e in
    let stands : x.standing ≡ s = ap (λ (z : Entry). z.standing) e in
    let is = put x es parted.entered in
    let to : insert_entry nat_cmp es x.instance x ≡ new = ap (λ (n : ℕ). insert_entry nat_cmp es n x) at ∙ sym made in
    let values : values_of new ≡ set_entry k s (values_of es) = ap (λ (z : List (ℕ × Entry)). values_of z) (sym to) ∙ is.values ∙ ap (λ (n : ℕ). set_entry n x.standing (values_of es)) at ∙ ap (λ (t : Standing). set_entry k t (values_of es)) stands in
    record {
      same = ap (λ (ys : List Entry). front ++ ys) values ∙ sym (high_set 0 k s front (values_of es) parted.first (omega arith));
      parted = record {
        first = parted.first;
        entered = subst (λ (z : List (ℕ × Entry)). AreEntered z) to is.entered;
        behind = subst (λ (ys : List Entry). AscendsFrom (length front) ys) (sym values) (ascends_set (length front) k s (values_of es) le parted.behind);
      };
    }

-- ---- the next one in turn

set_first : (k : ℕ) (s : Standing) (es : List Entry) → AscendsFrom (k + 1) es → set_entry k s es ≡ record { instance = k; standing = s } ∷ es
set_first k s [] up = refl
set_first k s (y ∷ es) up = let lt = up.0 in rw (lt-ltb k y.instance (omega (arith, lt))) refl

-- where the next one isn't in the tree, all lie behind it
all_behind : (k : ℕ) (es : List (ℕ × Entry)) → AreEntered es → AscendsFrom k (values_of es) → is_some (lookup (is_at (nat_cmp k)) es) ≡ false → AscendsFrom (k + 1) (values_of es)
all_behind k [] h up none = tt
all_behind k (e ∷ es) h up none = at (nat_cmp k e.0) refl
  where
    at : (r : Ordering) → nat_cmp k e.0 ≡ r → AscendsFrom (k + 1) (values_of (e ∷ es))
    at Less r = let is = h.0 in let l : k < e.0 = ranked k e.0 Less (sym r) in (omega (arith, l, is), up.1)
    at Equal r = let m : is_some (Some e.1) ≡ false = rw r at none in cc
    at Greater r = let is = h.0 in let l : e.0 < k = ranked k e.0 Greater (sym r) in let g = up.0 in absurd (omega (arith, l, g, is))

-- the entry of the next instance goes behind the vector
pub pushed : (k : ℕ) (s : Standing) (x : Entry) (front new : List Entry) (es : List (ℕ × Entry)) → AreParted front es → k ≡ length front → is_some (lookup (is_at (nat_cmp k)) es) ≡ false → x ≡ record { instance = k; standing = s } → new ≡ front ++ x ∷ [] → IsSet k s front new es es
pushed k s x front new es parted next none e made =
    let up : AscendsFrom k (values_of es) = subst (λ (n : ℕ). AscendsFrom n (values_of es)) (sym next) parted.behind in
    let behind : AscendsFrom (k + 1) (values_of es) = all_behind k es parted.entered up none in
    let at : x.instance ≡ k = ap (λ (z : Entry). z.instance) e in
    let long : length new ≡ k + 1 = ap (λ (ys : List Entry). length ys) made ∙ length_push x front ∙ ap (λ (n : ℕ). n + 1) (sym next) in
    let one : set_entry k s (front ++ values_of es) ≡ front ++ (x ∷ values_of es) = high_set 0 k s front (values_of es) parted.first (omega (arith, next)) ∙ ap (λ (ys : List Entry). front ++ ys) (set_first k s (values_of es) behind ∙ ap (λ (z : Entry). z ∷ values_of es) (sym e)) in
    record {
      same = ap (λ (ys : List Entry). ys ++ values_of es) made ∙ append_assoc front (x ∷ []) (values_of es) ∙ sym one;
      parted = record {
        first = subst (λ (ys : List Entry). AreFirst 0 ys) (sym made) (first_push 0 x front parted.first (omega (arith, at, next)));
        entered = parted.entered;
        behind = subst (λ (n : ℕ). AscendsFrom n (values_of es)) (sym long) behind;
      };
    }

pub first_is : (es : List (ℕ × Entry)) (k : ℕ) (e : ℕ × Entry) → slice_get es 0 ≡ Some e → e.0 ≡ k → IsFirst k es
first_is [] k e h s = cc
first_is (x ∷ xs) k e h s = ap (λ (y : ℕ × Entry). y.0) (same_Some x e h) ∙ s

-- the tree's first entry goes behind the vector, where it is next in turn
pub record IsMoved (front new : List Entry) (es rest : List (ℕ × Entry)) : Type 0 where
  pub same : new ++ values_of rest ≡ front ++ values_of es
  pub parted : AreParted new rest

pub moved : (front new : List Entry) (es rest : List (ℕ × Entry)) (e : ℕ × Entry) → IsFirst (length front) es → AreParted front es → es ≡ e ∷ rest → new ≡ front ++ e.1 ∷ [] → IsMoved front new es rest
moved front new es rest e first parted is made =
    let key : e.0 ≡ length front = subst (λ (z : List (ℕ × Entry)). IsFirst (length front) z) is first in
    let entered : AreEntered (e ∷ rest) = subst (λ (z : List (ℕ × Entry)). AreEntered z) is parted.entered in
    let behind : AscendsFrom (length front) (values_of (e ∷ rest)) = subst (λ (z : List (ℕ × Entry)). AscendsFrom (length front) (values_of z)) is parted.behind in
    let at : e.1.instance ≡ length front = sym entered.0 ∙ key in
    let long : length new ≡ e.1.instance + 1 = ap (λ (ys : List Entry). length ys) made ∙ length_push e.1 front ∙ ap (λ (n : ℕ). n + 1) (sym at) in
    record {
      same = ap (λ (ys : List Entry). ys ++ values_of rest) made ∙ append_assoc front (e.1 ∷ []) (values_of rest) ∙ ap (λ (z : List (ℕ × Entry)). front ++ values_of z) (sym is);
      parted = record {
        first = subst (λ (ys : List Entry). AreFirst 0 ys) (sym made) (first_push 0 e.1 front parted.first (omega (arith, at)));
        entered = entered.1;
        behind = subst (λ (n : ℕ). AscendsFrom n (values_of rest)) (sym long) behind.1;
      };
    }

-- ---- taking a list apart, and putting it together

-- the first of ascending entries ascend, and so do the others
record AreApart (low : ℕ) (xs ys : List Entry) : Type 0 where
  pub before : AscendsFrom low xs
  pub behind : AscendsFrom (low + length xs) ys

ascends_lower : (high low : ℕ) (ys : List Entry) → low ≤ high → AscendsFrom high ys → AscendsFrom low ys
ascends_lower high low [] le up = tt
ascends_lower high low (y ∷ ys) le up = let h = up.0 in (omega (arith, h, le), up.1)

ascends_parts : (low : ℕ) (xs ys : List Entry) → AscendsFrom low (xs ++ ys) → AreApart low xs ys
ascends_parts low [] ys up = record { before = tt; behind = subst (λ (n : ℕ). AscendsFrom n ys) (omega arith) up }
ascends_parts low (x ∷ xs) ys up =
    let parts = ascends_parts (x.instance + 1) xs ys up.1 in
    let above = up.0 in
    record {
      before = (above, parts.before);
      behind = ascends_lower (x.instance + 1 + length xs) (low + length (x ∷ xs)) ys (omega (arith, above)) parts.behind;
    }

all_ascend : (i : ℕ) (front es : List Entry) → AreFirst i front → AscendsFrom (i + length front) es → AscendsFrom i (front ++ es)
all_ascend i [] es first up = subst (λ (n : ℕ). AscendsFrom n es) (omega arith) up
all_ascend i (x ∷ xs) es first up =
    let is = first.0 in
    (omega (arith, is), subst (λ (n : ℕ). AscendsFrom (n + 1) (xs ++ es)) (sym is) (all_ascend (i + 1) xs es first.1 (subst (λ (n : ℕ). AscendsFrom n es) (omega arith) up)))

-- both parts ascend together
pub parts_ascend : (front : List Entry) (es : List (ℕ × Entry)) → AreParted front es → IsAscending (front ++ values_of es)
parts_ascend front es parted = record { ascends = all_ascend 0 front (values_of es) parted.first (subst (λ (n : ℕ). AscendsFrom n (values_of es)) (omega arith) parted.behind) }

-- a tree without a first entry has none
pub none_left : (es : List (ℕ × Entry)) → (0 < length es → false ≡ true) → values_of es ≡ []
none_left [] h = refl
none_left (e ∷ es) h = let m : false ≡ true = h (omega arith) in cc

-- the last entry of ascending ones is at least as far as there are others
at_least : (low : ℕ) (xs : List Entry) (e : Entry) → AscendsFrom low (xs ++ e ∷ []) → low + length xs ≤ e.instance
at_least low [] e up = let h = up.0 in omega (arith, h)
at_least low (x ∷ xs) e up = let h = up.0 in let rest = at_least (x.instance + 1) xs e up.1 in omega (arith, h, rest)

-- where it is no further, there is no gap
no_gap : (low : ℕ) (xs : List Entry) (e : Entry) → AscendsFrom low (xs ++ e ∷ []) → e.instance ≡ low + length xs → AreFirst low (xs ++ e ∷ [])
no_gap low [] e up is = (omega (arith, is), tt)
no_gap low (x ∷ xs) e up is =
    let h = up.0 in
    let rest = at_least (x.instance + 1) xs e up.1 in
    let here : x.instance ≡ low = omega (arith, h, rest, is) in
    (here, no_gap (low + 1) xs e (subst (λ (n : ℕ). AscendsFrom (n + 1) (xs ++ e ∷ [])) here up.1) (omega (arith, is)))

-- all but the last entry, and the last one
last_of : (es : List Entry) → 0 < length es → (xs : List Entry) × (e : Entry) × (es ≡ xs ++ e ∷ [])
last_of [] some = absurd (omega arith)
last_of (x ∷ []) some = ([], x, refl)
last_of (x ∷ y ∷ ys) some = let rest = last_of (y ∷ ys) (omega arith) in (x ∷ rest.0, rest.1, ap (λ (zs : List Entry). x ∷ zs) rest.2)

-- the last entry stands below their number: there is no gap
pub without_gap : (es : List Entry) (d last : Entry) → IsAscending es → 0 < length es → last ≡ get_or es (length es - 1) d → last.instance < length es → AreFirst 0 es
without_gap es d last up some is far =
    let parts = last_of es some in
    let long : length es ≡ length parts.0 + 1 = ap (λ (ys : List Entry). length ys) parts.2 ∙ length_push parts.1 parts.0 in
    let place : length es - 1 ≡ length parts.0 = omega (arith, long) in
    let there : get_or es (length es - 1) d ≡ parts.1 = ap (λ (n : ℕ). get_or es n d) place ∙ ap (λ (ys : List Entry). get_or ys (length parts.0) d) parts.2 ∙ end parts.0 parts.1 in
    let same : last ≡ parts.1 = is ∙ there in
    let ascends : AscendsFrom 0 (parts.0 ++ parts.1 ∷ []) = subst (λ (ys : List Entry). AscendsFrom 0 ys) parts.2 up.ascends in
    let at : parts.1.instance ≡ 0 + length parts.0 = omega (arith, far, long, ap (λ (z : Entry). z.instance) same, at_least 0 parts.0 parts.1 ascends) in
    subst (λ (ys : List Entry). AreFirst 0 ys) (sym parts.2) (no_gap 0 parts.0 parts.1 ascends at)
  where
    end : (xs : List Entry) (e : Entry) → get_or (xs ++ e ∷ []) (length xs) d ≡ e
    end [] e = refl
    end (x ∷ xs) e = end xs e

-- the last entry of the vector goes to the tree
pub record IsTaken (all front : List Entry) (new : List (ℕ × Entry)) : Type 0 where
  pub same : front ++ values_of new ≡ all
  pub entered : AreEntered new

pub taken : (all front rest : List Entry) (es new : List (ℕ × Entry)) (e : Entry) → IsAscending all → IsTaken all front es → front ≡ rest ++ e ∷ [] → new ≡ insert_entry nat_cmp es e.instance e → IsTaken all rest new
taken all front rest es new e up before is made =
    let whole : (rest ++ e ∷ []) ++ values_of es ≡ all = ap (λ (ys : List Entry). ys ++ values_of es) (sym is) ∙ before.same in
    let split : rest ++ (e ∷ values_of es) ≡ all = sym (append_assoc rest (e ∷ []) (values_of es)) ∙ whole in
    let parts = ascends_parts 0 rest (e ∷ values_of es) (subst (λ (ys : List Entry). AscendsFrom 0 ys) (sym split) up.ascends) in
    let put_in = put e es before.entered in
    record {
      same = ap (λ (z : List (ℕ × Entry)). rest ++ values_of z) made ∙ ap (λ (ys : List Entry). rest ++ ys) (put_in.values ∙ set_first e.instance e.standing (values_of es) parts.behind.1) ∙ split;
      entered = subst (λ (z : List (ℕ × Entry)). AreEntered z) (sym made) put_in.entered;
    }

pub parted_at_gap : (all front : List Entry) (es : List (ℕ × Entry)) → IsAscending all → IsTaken all front es → AreFirst 0 front → AreParted front es
parted_at_gap all front es up at first =
    let parts = ascends_parts 0 front (values_of es) (subst (λ (ys : List Entry). AscendsFrom 0 ys) (sym at.same) up.ascends) in
    record { first = first; entered = at.entered; behind = subst (λ (n : ℕ). AscendsFrom n (values_of es)) (omega arith) parts.behind }

-- what is left of the vector ascends
pub front_ascends : (all front : List Entry) (es : List (ℕ × Entry)) → IsAscending all → IsTaken all front es → IsAscending front
front_ascends all front es up at = record { ascends = (ascends_parts 0 front (values_of es) (subst (λ (ys : List Entry). AscendsFrom 0 ys) (sym at.same) up.ascends)).before }
