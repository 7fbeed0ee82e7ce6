-- Where an instance stands by a node's row after a fact is where it stands by the facts.
use Rattle.std.proofs.Common.{◌≡◌, ℕ, Bool, true, false, ◌==◌, nat_lt, if◌then◌else◌, List, [], ◌∷◌, map, Option, None, Some, option_map, refl, ap, sym, ◌∙◌, subst, eqb-true}
use Rattle.std.proofs.lemmas.Bool.{eqb-false}
use Rattle.std.proofs.lemmas.Option.{none-some, same_Some}
use Rattle.rr_types.specs.declared.fact.Fact.{Fact}
use Rattle.rr_types.specs.declared.fact.Fact.TheVariants.{Enter, Propose, Adopt, Decide}
use Rattle.rr_types.specs.declared.promise.Entry.{Entry}
use Rattle.rr_types.specs.declared.promise.Standing.{Standing}
use Rattle.rr_types.specs.declared.promise.Standing.TheVariants.{Decided, Open}
use Rattle.rr_types.specs.Facts.{instance_of, after_fact}
use Rattle.rr_types.specs.Promises.{standing_in}
use Rattle.rr_model.specs.NodeState.{Row, row_of, put_row}
use Rattle.rr_model.specs.NodeParts.{fresh_row, row_after, rows_after}
use Rattle.rr_model.specs.NodeStep.{promised_row}

-- the rows with one put, looked up
put_cases : (row r : Row) (rs : List Row) (j : ℕ) (below same found : Bool) → nat_lt row.instance r.instance ≡ below → (row.instance == r.instance) ≡ same → (row.instance == j) ≡ found → (row_of (put_row row rs) j ≡ (if found then Some row else row_of rs j)) → row_of (if below then row ∷ r ∷ rs else (if same then row ∷ rs else r ∷ put_row row rs)) j ≡ (if found then Some row else row_of (r ∷ rs) j)
put_cases row r rs j true same found b a f ih = ap (λ t. if t then Some row else row_of (r ∷ rs) j) f
put_cases row r rs j false true true b a f ih = ap (λ t. if t then Some row else row_of rs j) f
put_cases row r rs j false true false b a f ih =
    let x : row.instance ≡ r.instance = eqb-true row.instance r.instance a in
    let y : (r.instance == j) ≡ false = subst (λ z. (z == j) ≡ false) x f in
    ap (λ t. if t then Some row else row_of rs j) f ∙ sym (ap (λ t. if t then Some r else row_of rs j) y)
put_cases row r rs j false false true b a f ih = behind (r.instance == j) refl
  where
    behind : (t : Bool) → (r.instance == j) ≡ t → (if r.instance == j then Some r else row_of (put_row row rs) j) ≡ Some row
    behind true h = absurd (eqb-false row.instance r.instance a (eqb-true row.instance j f ∙ sym (eqb-true r.instance j h)))
    behind false h = ap (λ t. if t then Some r else row_of (put_row row rs) j) h ∙ ih
put_cases row r rs j false false false b a f ih = ap (λ z. if r.instance == j then Some r else z) ih

-- the row of an instance once a row is put
pub row_of-put_row : (row : Row) (rows : List Row) (j : ℕ) → row_of (put_row row rows) j ≡ (if row.instance == j then Some row else row_of rows j)
row_of-put_row row [] j = refl
row_of-put_row row (r ∷ rs) j = put_cases row r rs j (nat_lt row.instance r.instance) (row.instance == r.instance) (row.instance == j) refl refl refl (row_of-put_row row rs j)

-- the row of an instance is about it
pub row_of_instance : (rows : List Row) (i : ℕ) (row : Row) → row_of rows i ≡ Some row → row.instance ≡ i
row_of_instance [] i row e = absurd (none-some row e)
row_of_instance (r ∷ rs) i row e = at (row_of_instance rs i row) (r.instance == i) refl e
  where
    at : (row_of rs i ≡ Some row → row.instance ≡ i) → (t : Bool) → (r.instance == i) ≡ t → (if t then Some r else row_of rs i) ≡ Some row → row.instance ≡ i
    at ih true h x = ap (λ (z : Row). z.instance) (sym (same_Some r row x)) ∙ eqb-true r.instance i h
    at ih false h x = ih x

-- where a row's instance stands
abbrev pub stands : Option Row → Option Standing
stands o = option_map (λ r. r.standing) o

-- the row after a fact with number k, which leaves this standing
abbrev pub row_then : ℕ → Fact → Option Standing → Option Row → Option Row
row_then k f None o = o
row_then k f (Some s) None = Some (row_after k f s (fresh_row (instance_of f) s))
row_then k f (Some s) (Some r) = Some (row_after k f s r)

unchanged : (rows : List Row) (i j : ℕ) (o : Option Row) → row_of rows i ≡ o → (t : Bool) → (i == j) ≡ t → row_of rows j ≡ (if t then o else row_of rows j)
unchanged rows i j o a true e = subst (λ z. row_of rows z ≡ o) (eqb-true i j e) a
unchanged rows i j o a false e = refl

rows_cases : (k : ℕ) (f : Fact) (rows : List Row) (j : ℕ) (o : Option Row) (s : Option Standing) → row_of rows (instance_of f) ≡ o → after_fact (stands (row_of rows (instance_of f))) f ≡ s → row_of (rows_after k f rows) j ≡ (if instance_of f == j then row_then k f s o else row_of rows j)
rows_cases k f rows j o None a b = rw b (unchanged rows (instance_of f) j o a (instance_of f == j) refl)
rows_cases k f rows j None (Some s) a b = rw (b, a) (row_of-put_row (row_after k f s (fresh_row (instance_of f) s)) rows j)
rows_cases k f rows j (Some r) (Some s) a b = rw (b, a) (row_of-put_row (row_after k f s r) rows j ∙ ap (λ z. if z == j then Some (row_after k f s r) else row_of rows j) (row_of_instance rows (instance_of f) r a))

-- the row of an instance after a fact
pub row_of-rows_after : (k : ℕ) (f : Fact) (rows : List Row) (j : ℕ) → row_of (rows_after k f rows) j ≡ (if instance_of f == j then row_then k f (after_fact (stands (row_of rows (instance_of f))) f) (row_of rows (instance_of f)) else row_of rows j)
row_of-rows_after k f rows j = rows_cases k f rows j (row_of rows (instance_of f)) (after_fact (stands (row_of rows (instance_of f))) f) refl refl

-- a fact that leaves no standing found none
none_before : (s : Option Standing) (f : Fact) → after_fact s f ≡ None → s ≡ None
none_before None f e = refl
none_before (Some (Decided v)) (Enter i x) e = cc
none_before (Some (Open o)) (Enter i x) e = cc
none_before (Some (Decided v)) (Propose i r w) e = cc
none_before (Some (Open o)) (Propose i r w) e = cc
none_before (Some (Decided v)) (Adopt i r w) e = cc
none_before (Some (Open o)) (Adopt i r w) e = cc
none_before (Some (Decided v)) (Decide i w) e = cc
none_before (Some (Open o)) (Decide i w) e = cc

then_cases : (k : ℕ) (f : Fact) (o : Option Row) (s : Option Standing) → after_fact (stands o) f ≡ s → stands (row_then k f s o) ≡ s
then_cases k f o None e = none_before (stands o) f e
then_cases k f None (Some s) e = refl
then_cases k f (Some r) (Some s) e = refl

-- where an instance stands by its row after a fact
pub stands-row_then : (k : ℕ) (f : Fact) (o : Option Row) → stands (row_then k f (after_fact (stands o) f) o) ≡ after_fact (stands o) f
stands-row_then k f o = then_cases k f o (after_fact (stands o) f) refl

-- the rows of a promise say what it says
pub stands-promised : (next : ℕ) (es : List Entry) (i : ℕ) → stands (row_of (map (promised_row next) es) i) ≡ standing_in es i
stands-promised next [] i = refl
stands-promised next (e ∷ es) i = at (stands-promised next es i) (e.instance == i) refl
  where
    at : (stands (row_of (map (promised_row next) es) i) ≡ standing_in es i) → (t : Bool) → (e.instance == i) ≡ t → stands (if t then Some (promised_row next e) else row_of (map (promised_row next) es) i) ≡ (if t then Some e.standing else standing_in es i)
    at ih true h = refl
    at ih false h = ih
