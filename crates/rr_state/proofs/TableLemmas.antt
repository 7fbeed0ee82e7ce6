-- Rows at their instances: what a look-up finds, and a row put.
use Rattle.std.proofs.Common.{◌≡◌, ℕ, ◌+◌, ◌<◌, ◌≤◌, Bool, true, false, cond, ◌==◌, nat_lt, ◌||◌, List, [], ◌∷◌, None, Some, option_map, refl, ap, sym, ◌∙◌, arith, eqb-true}
use Rattle.std.specs.Ordering.{is_eq, nat_cmp}
use Rattle.std.specs.List.{list_any}
use Rattle.std.specs.BTreeMap.{insert_entry, is_at}
use Rattle.std.specs.Map.{lookup}
use Rattle.std.proofs.lemmas.Bool.{ne_eqb, eq-eqb}
use Rattle.std.proofs.lemmas.Bool.Decides.{nat_tests}
use Rattle.std.proofs.lemmas.Option.{none-some, same_Some}
use Rattle.rr_types.specs.Facts.{decision_of}
use Rattle.rr_model.specs.NodeState.{Row, row_of, put_row, decided_command}
use Rattle.rr_state.specs.Listed.{decision_at}
use Rattle.rr_state.specs.Rowed.{rows_in, AreKeyed, AscendFrom}

or_right : (a : Bool) {b : Bool} → b ≡ true → (a || b) ≡ true
or_right true h = refl
or_right false h = h

or_left : (a b : Bool) → a ≡ false → (a || b) ≡ true → b ≡ true
or_left true b h t = cc
or_left false b h t = t

-- a number compares as equal where it is one
pub eq_nat_cmp : (i j : ℕ) → is_eq (nat_cmp i j) ≡ (j == i)
eq_nat_cmp i j = grind (arith, nat_tests)

row_by : (e : ℕ × Row) (es : List (ℕ × Row)) (i : ℕ) → e.0 ≡ e.1.instance → row_of (rows_in es) i ≡ lookup (is_at (nat_cmp i)) es → (b : Bool) → (e.1.instance == i) ≡ b → row_of (rows_in (e ∷ es)) i ≡ lookup (is_at (nat_cmp i)) (e ∷ es)
row_by e es i k more true h = rw (eq_nat_cmp i e.0, k, h)
row_by e es i k more false h = rw (eq_nat_cmp i e.0, k, h) more

-- the row of an instance is what a look-up finds
pub row_at : (es : List (ℕ × Row)) (i : ℕ) → AreKeyed es → row_of (rows_in es) i ≡ lookup (is_at (nat_cmp i)) es
row_at [] i h = refl
row_at (e ∷ es) i h = row_by e es i h.0 (row_at es i h.1) (e.1.instance == i) refl

put_by : (row : Row) (e : ℕ × Row) (es : List (ℕ × Row)) → e.0 ≡ e.1.instance → rows_in (insert_entry nat_cmp es row.instance row) ≡ put_row row (rows_in es) → (a b : Bool) → nat_lt row.instance e.1.instance ≡ a → (row.instance == e.1.instance) ≡ b → rows_in (insert_entry nat_cmp (e ∷ es) row.instance row) ≡ put_row row (rows_in (e ∷ es))
put_by row e es k more true b h i = rw (k, h)
put_by row e es k more false true h i = rw (k, h, i)
put_by row e es k more false false h i = rw (k, h, i) (ap (λ rs. e.1 ∷ rs) more)

-- a row put at its instance is put among the rows
pub put_at : (row : Row) (es : List (ℕ × Row)) → AreKeyed es → rows_in (insert_entry nat_cmp es row.instance row) ≡ put_row row (rows_in es)
put_at row [] h = refl
put_at row (e ∷ es) h = put_by row e es h.0 (put_at row es h.1) (nat_lt row.instance e.1.instance) (row.instance == e.1.instance) refl refl

keyed_by : (row : Row) (e : ℕ × Row) (es : List (ℕ × Row)) → AreKeyed (e ∷ es) → AreKeyed (insert_entry nat_cmp es row.instance row) → (a b : Bool) → nat_lt row.instance e.0 ≡ a → (row.instance == e.0) ≡ b → AreKeyed (insert_entry nat_cmp (e ∷ es) row.instance row)
keyed_by row e es k more true b h i = rw h (refl, (k.0, k.1))
keyed_by row e es k more false true h i = rw (h, i) (sym (eqb-true row.instance e.0 i), k.1)
keyed_by row e es k more false false h i = rw (h, i) (k.0, more)

pub keyed_put : (row : Row) (es : List (ℕ × Row)) → AreKeyed es → AreKeyed (insert_entry nat_cmp es row.instance row)
keyed_put row [] h = (refl, tt)
keyed_put row (e ∷ es) h = keyed_by row e es h (keyed_put row es h.1) (nat_lt row.instance e.0) (row.instance == e.0) refl refl

-- the same of a row under a number that is its instance
pub placed_row : (row : Row) (i : ℕ) (es : List (ℕ × Row)) → AreKeyed es → i ≡ row.instance → rows_in (insert_entry nat_cmp es i row) ≡ put_row row (rows_in es)
placed_row row i es h e = rw e (put_at row es h)

pub keyed_row : (row : Row) (i : ℕ) (es : List (ℕ × Row)) → AreKeyed es → i ≡ row.instance → AreKeyed (insert_entry nat_cmp es i row)
keyed_row row i es h e = rw e (keyed_put row es h)

-- what an instance has decided, by its row
pub decision_none : (rows : List Row) (i : ℕ) → row_of rows i ≡ None → decision_at rows i ≡ None
decision_none rows i h = ap (λ o. decision_of (option_map (λ (r : Row). r.standing) o)) h

pub decision_some : (rows : List Row) (i : ℕ) (r : Row) → row_of rows i ≡ Some r → decision_at rows i ≡ decided_command r
decision_some rows i r h = ap (λ o. decision_of (option_map (λ (r : Row). r.standing) o)) h

below_by : (r : Row) (rs : List Row) (i : ℕ) → i < r.instance → row_of rs i ≡ None → row_of (r ∷ rs) i ≡ None
below_by r rs i l more = let o : (r.instance == i) ≡ false = ne_eqb _ _ (λ x. omega (arith, x)) in rw o more

-- no row lies below the first
pub none_below : (low : ℕ) (rows : List Row) (i : ℕ) → AscendFrom low rows → i < low → row_of rows i ≡ None
none_below low [] i h l = refl
none_below low (r ∷ rs) i h l = let k = h.0 in below_by r rs i (omega arith) (none_below (r.instance + 1) rs i h.1 (omega arith))

-- a decision is a row's
pub at_any : (p : Row → Bool) (rows : List Row) (i : ℕ) (r : Row) → row_of rows i ≡ Some r → p r ≡ true → list_any p rows ≡ true
at_any p [] i r h t = absurd (none-some r h)
at_any p (x ∷ xs) i r h t = at (at_any p xs i r) (x.instance == i) h
  where
    at : (row_of xs i ≡ Some r → p r ≡ true → list_any p xs ≡ true) → (b : Bool) → cond b (Some x) (row_of xs i) ≡ Some r → list_any p (x ∷ xs) ≡ true
    at more true k = let e : p x ≡ true = ap p (same_Some x r k) ∙ t in rw e
    at more false k = or_right (p x) (more k t)

-- a row that passes is that of its instance
pub any_at : (p : Row → Bool) (low : ℕ) (rows : List Row) → AscendFrom low rows → list_any p rows ≡ true → (r : Row) × (row_of rows r.instance ≡ Some r) × (p r ≡ true) × (low ≤ r.instance)
any_at p low [] h t = cc
any_at p low (x ∷ xs) h t = at (any_at p (x.instance + 1) xs h.1) (p x) refl
  where
    at : (list_any p xs ≡ true → (r : Row) × (row_of xs r.instance ≡ Some r) × (p r ≡ true) × (x.instance + 1 ≤ r.instance)) → (b : Bool) → p x ≡ b → (r : Row) × (row_of (x ∷ xs) r.instance ≡ Some r) × (p r ≡ true) × (low ≤ r.instance)
    at more true e = let s : (x.instance == x.instance) ≡ true = eq-eqb _ _ refl in (x, rw s, e, h.0)
    at more false e =
        let f : list_any p xs ≡ true = or_left (p x) (list_any p xs) e t in
        let m = more f in
        let l = m.3 in
        let k = h.0 in
        let o : (x.instance == m.0.instance) ≡ false = ne_eqb _ _ (λ y. omega (arith, y)) in
        (m.0, rw o m.1, m.2, omega arith)
