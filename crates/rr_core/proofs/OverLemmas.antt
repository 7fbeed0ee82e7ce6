-- Rows with changed ones over them.
use Rattle.std.proofs.Common.{◌≡◌, ◌≢◌, ◌+◌, ◌<◌, ◌≤◌, ℕ, zero, suc, arith, Bool, true, false, ltb, eqb, cond, ◌&&◌, ◌||◌, not, List, [], ◌∷◌, ◌++◌, length, get_or, set, reverse, ap, sym, ◌∙◌, refl, subst, Option, Some, None, option_map}
use Rattle.std.proofs.lemmas.List.{reverse-append}
use Rattle.std.proofs.lemmas.Option.{none-some}
use Rattle.std.specs.List.{list_any}
use Rattle.std.specs.Option.{option_map_or}
use Rattle.std.proofs.lemmas.Bool.{ltb-true, ltb-false, le-ltb, ne_eqb, eq-eqb, eqb-true, eqb-false, false≢true}
use Rattle.rr_types.specs.declared.command.RequestNo.{RequestNo}
use Rattle.rr_types.specs.declared.command.Command.{Command}
use Rattle.rr_types.specs.declared.promise.Standing.{Standing}
use Rattle.rr_types.specs.declared.promise.Standing.TheVariants.{Decided, Open}
use Rattle.rr_types.specs.Registry.{is_same_request}
use Rattle.rr_types.specs.declared.fact.Fact.{Fact}
use Rattle.rr_types.specs.Facts.{decision_of, instance_of, after_fact}
use Rattle.rr_types.specs.Standings.{is_undecided}
use Rattle.rr_types.specs.declared.fact.Fact.TheVariants.{Enter, Propose, Adopt, Decide}
use Rattle.rr_model.specs.NodeState.{NodeState, next_number, Row, row_of, put_row, is_decided, decided_command, undecided_from, lowest_undecided}
use Rattle.rr_model.specs.NodeParts.{row_after, fresh_row, rows_after}
use Rattle.rr_state.specs.Rowed.{AscendFrom, has_decided}
use Rattle.rr_state.specs.Listed as listed
use Rattle.rr_core.specs.Steps.{put_rows, KeepsStanding, KeepsDecision, KeepDecisions, Stepped, stepped, IsDecidedFact}

-- the row put there is the one of its instance
pub row_of_put : (r : Row) (rows : List Row) (i : ℕ) → row_of (put_row r rows) i ≡ cond (eqb r.instance i) (Some r) (row_of rows i)
row_of_put r [] i = refl
row_of_put r (o ∷ os) i = by (row_of_put r os i) (ltb r.instance o.instance) (eqb r.instance o.instance) (eqb o.instance i) (eqb r.instance i) refl refl refl refl
  where
    by : row_of (put_row r os) i ≡ cond (eqb r.instance i) (Some r) (row_of os i) → (a b c d : Bool) → ltb r.instance o.instance ≡ a → eqb r.instance o.instance ≡ b → eqb o.instance i ≡ c → eqb r.instance i ≡ d → row_of (put_row r (o ∷ os)) i ≡ cond (eqb r.instance i) (Some r) (row_of (o ∷ os) i)
    by more true b c d e f g h = rw (e, h) refl
    by more false true true true e f g h = rw (e, f, h) refl
    by more false true true false e f g h = absurd (eqb-false _ _ h (eqb-true _ _ f ∙ eqb-true _ _ g))
    by more false true false true e f g h = absurd (eqb-false _ _ g (sym (eqb-true _ _ f) ∙ eqb-true _ _ h))
    by more false true false false e f g h = rw (e, f, g, h) refl
    by more false false true true e f g h = absurd (eqb-false _ _ f (eqb-true _ _ h ∙ sym (eqb-true _ _ g)))
    by more false false true false e f g h = rw (e, f, g, h) refl
    by more false false false true e f g h = rw (e, f, g) (more ∙ rw h refl)
    by more false false false false e f g h = rw (e, f, g) (more ∙ rw h refl)

-- a changed row is the one of its instance
pub row_changed : (rs rows : List Row) (i : ℕ) (r : Row) → row_of rs i ≡ Some r → row_of (put_rows rs rows) i ≡ Some r
row_changed [] rows i r h = absurd (cc)
row_changed (q ∷ rs) rows i r h = row_of_put q (put_rows rs rows) i ∙ by (row_changed rs rows i r) (eqb q.instance i) h
  where
    by : (row_of rs i ≡ Some r → row_of (put_rows rs rows) i ≡ Some r) → (b : Bool) → cond b (Some q) (row_of rs i) ≡ Some r → cond b (Some q) (row_of (put_rows rs rows) i) ≡ Some r
    by more true e = e
    by more false e = more e

-- and where none is changed, the row there is
pub row_same : (rs rows : List Row) (i : ℕ) → row_of rs i ≡ None → row_of (put_rows rs rows) i ≡ row_of rows i
row_same [] rows i h = refl
row_same (q ∷ rs) rows i h = row_of_put q (put_rows rs rows) i ∙ by (row_same rs rows i) (eqb q.instance i) h
  where
    by : (row_of rs i ≡ None → row_of (put_rows rs rows) i ≡ row_of rows i) → (b : Bool) → cond b (Some q) (row_of rs i) ≡ None → cond b (Some q) (row_of (put_rows rs rows) i) ≡ row_of rows i
    by more true e = absurd (cc)
    by more false e = more e

-- the row of an instance is of that instance
pub row_is_of : (rows : List Row) (i : ℕ) (r : Row) → row_of rows i ≡ Some r → r.instance ≡ i
row_is_of [] i r h = absurd (cc)
row_is_of (o ∷ os) i r h = by (row_is_of os i r) (eqb o.instance i) refl h
  where
    by : (row_of os i ≡ Some r → r.instance ≡ i) → (b : Bool) → eqb o.instance i ≡ b → cond b (Some o) (row_of os i) ≡ Some r → r.instance ≡ i
    by more true e f = (let g : o ≡ r = cc in ap (λ (x : Row). x.instance) (sym g) ∙ eqb-true _ _ e)
    by more false e f = more f

-- a test that a row passes at the latest with the decision of the row before it
abbrev pub IsOfDecision : (Row → Bool) → Type 0
IsOfDecision p = (o r : Row) → o.instance ≡ r.instance → ((v : Command) → decided_command o ≡ Some v → decided_command r ≡ Some v) → p o ≡ true → p r ≡ true

or_swap : (a b c : Bool) → (a || (b || c)) ≡ (b || (a || c))
or_swap true true c = refl
or_swap true false c = refl
or_swap false b c = refl

or_both : (a b c : Bool) → ((a || b) || c) ≡ (a || (b || c))
or_both true b c = refl
or_both false b c = refl

or_less : (a b c : Bool) → (b ≡ true → a ≡ true) → (a || c) ≡ (a || (b || c))
or_less true b c h = refl
or_less false true c h = absurd (false≢true (h refl))
or_less false false c h = refl

any_put : (p : Row → Bool) (r : Row) (rows : List Row) → ((o : Row) → row_of rows r.instance ≡ Some o → p o ≡ true → p r ≡ true) → list_any p (put_row r rows) ≡ (p r || list_any p rows)
any_put p r [] h = refl
any_put p r (o ∷ os) h = by (λ k. any_put p r os k) (ltb r.instance o.instance) (eqb r.instance o.instance) refl refl
  where
    by : (((q : Row) → row_of os r.instance ≡ Some q → p q ≡ true → p r ≡ true) → list_any p (put_row r os) ≡ (p r || list_any p os)) → (a b : Bool) → ltb r.instance o.instance ≡ a → eqb r.instance o.instance ≡ b → list_any p (put_row r (o ∷ os)) ≡ (p r || list_any p (o ∷ os))
    by more true b e f = rw e refl
    by more false true e f =
        let g : eqb o.instance r.instance ≡ true = eq-eqb _ _ (sym (eqb-true _ _ f)) in
        let there : row_of (o ∷ os) r.instance ≡ Some o = rw g refl in
        rw (e, f) (or_less (p r) (p o) (list_any p os) (h o there))
    by more false false e f =
        let g : eqb o.instance r.instance ≡ false = ne_eqb _ _ (λ same. eqb-false _ _ f (sym same)) in
        rw (e, f) (ap (λ (b : Bool). p o || b) (more (λ q k. h q (rw g k))) ∙ or_swap (p o) (p r) (list_any p os))

pub any_changed : (p : Row → Bool) → IsOfDecision p → (rs rows : List Row) → KeepDecisions rs rows → list_any p (put_rows rs rows) ≡ (list_any p rs || list_any p rows)
any_changed p h [] rows k = refl
any_changed p h (r ∷ rs) rows k =
    any_put p r (put_rows rs rows) (λ o there. h o r (row_is_of (put_rows rs rows) r.instance o there) (λ v e. k.0 v (ap (λ (x : Option Row). decision_of (option_map (λ o. o.standing) x)) there ∙ e)))
    ∙ ap (λ (b : Bool). p r || b) (any_changed p h rs rows k.1)
    ∙ sym (or_both (p r) (list_any p rs) (list_any p rows))

request_kept : (q : RequestNo) → IsOfDecision (has_decided q)
request_kept q o r same h = by (decided_command o) h
  where
    by : (x : Option Command) → ((v : Command) → x ≡ Some v → decided_command r ≡ Some v) → option_map_or (λ v. is_same_request v.request q) x false ≡ true → has_decided q r ≡ true
    by None k e = absurd (false≢true e)
    by (Some v) k e = rw (k v refl) e

pub request_changed : (q : RequestNo) (rs rows : List Row) → KeepDecisions rs rows → list_any (has_decided q) (put_rows rs rows) ≡ (list_any (has_decided q) rs || list_any (has_decided q) rows)
request_changed q = any_changed (has_decided q) (request_kept q)

-- a decided row decides on a command
decided_on : (o : Standing) → not (is_undecided (Some o)) ≡ true → (s : Standing) → ((v : Command) → decision_of (Some o) ≡ Some v → decision_of (Some s) ≡ Some v) → not (is_undecided (Some s)) ≡ true
decided_on (Open a) h s k = absurd (false≢true h)
decided_on (Decided v) h (Decided w) k = refl
decided_on (Decided v) h (Open a) k = let e : decision_of (Some (Open a)) ≡ Some v = k v refl in absurd (cc)

module _ (f : ℕ → Bool) where
  -- a decided row whose instance passes
  abbrev pub passes : Row → Bool
  passes r = f r.instance && is_decided r

  passes_kept : IsOfDecision passes
  passes_kept o r same h e = by (f o.instance) refl e
    where
      by : (b : Bool) → f o.instance ≡ b → (b && is_decided o) ≡ true → (f r.instance && is_decided r) ≡ true
      by true g k = let there : f r.instance ≡ true = rw (sym same) g in let done : is_decided r ≡ true = decided_on o.standing k r.standing h in rw (there, done) refl
      by false g k = absurd (false≢true k)

  pub passes_changed : (rs rows : List Row) → KeepDecisions rs rows → list_any passes (put_rows rs rows) ≡ (list_any passes rs || list_any passes rows)
  passes_changed = any_changed passes passes_kept

-- the rows ascend with changed ones
put_ascends : (low : ℕ) (r : Row) (rows : List Row) → low ≤ r.instance → AscendFrom low rows → AscendFrom low (put_row r rows)
put_ascends low r [] l h = (omega arith, tt)
put_ascends low r (o ∷ os) l h = by (λ m. put_ascends (o.instance + 1) r os m h.1) (ltb r.instance o.instance) (eqb r.instance o.instance) refl refl
  where
    by : (o.instance + 1 ≤ r.instance → AscendFrom (o.instance + 1) (put_row r os)) → (a b : Bool) → ltb r.instance o.instance ≡ a → eqb r.instance o.instance ≡ b → AscendFrom low (put_row r (o ∷ os))
    by more true b p q = let less : r.instance < o.instance = ltb-true _ _ p in rw p (omega arith, (omega arith, h.1))
    by more false true p q = let same : r.instance ≡ o.instance = eqb-true _ _ q in rw (p, q) (omega arith, rw same h.1)
    by more false false p q =
        let above : o.instance ≤ r.instance = ltb-false _ _ p in
        let apart : r.instance ≢ o.instance = eqb-false _ _ q in
        rw (p, q) (h.0, more (omega (arith, apart)))

pub changed_ascend : (rs rows : List Row) → AscendFrom 0 rows → AscendFrom 0 (put_rows rs rows)
changed_ascend [] rows h = h
changed_ascend (r ∷ rs) rows h = put_ascends 0 r (put_rows rs rows) (omega arith) (changed_ascend rs rows h)

-- whether the rows have decided instance j
abbrev pub is_decided_at : ℕ → List Row → Bool
is_decided_at j rows = list_any (λ r. eqb r.instance j && is_decided r) rows

-- an instance below the rows isn't decided by them
below_rows : (low j : ℕ) (rows : List Row) → AscendFrom low rows → j < low → is_decided_at j rows ≡ false
below_rows low j [] h l = refl
below_rows low j (r ∷ rs) h l =
    let off : eqb r.instance j ≡ false = ne_eqb _ _ (λ same. omega (arith, same)) in
    rw off (below_rows (r.instance + 1) j rs h.1 (omega arith))

-- the lowest undecided instance is above a decided one
pub decided_passed : (low j : ℕ) (rows : List Row) → AscendFrom low rows → is_decided_at j rows ≡ true → undecided_from j rows ≡ undecided_from (j + 1) rows
decided_passed low j [] h d = absurd (false≢true d)
decided_passed low j (r ∷ rs) h d = by (λ e. decided_passed (r.instance + 1) j rs h.1 e) (ltb r.instance j) (eqb r.instance j) (is_decided r) (ltb r.instance (j + 1)) (is_decided_at j rs) refl refl refl refl refl d
  where
    by : (is_decided_at j rs ≡ true → undecided_from j rs ≡ undecided_from (j + 1) rs) → (a b c e f : Bool) → ltb r.instance j ≡ a → eqb r.instance j ≡ b → is_decided r ≡ c → ltb r.instance (j + 1) ≡ e → is_decided_at j rs ≡ f → ((b && c) || f) ≡ true → undecided_from j (r ∷ rs) ≡ undecided_from (j + 1) (r ∷ rs)
    by more true b c true f p q s t u v =
        let off : eqb r.instance j ≡ false = ne_eqb _ _ (λ same. omega (arith, same, ltb-true _ _ p)) in
        let w : f ≡ true = by_off b c f (sym q ∙ off) v in
        rw (p, t) (more (u ∙ w))
      where
        by_off : (x y z : Bool) → x ≡ false → ((x && y) || z) ≡ true → z ≡ true
        by_off true y z m n = absurd (false≢true (sym m))
        by_off false y z m n = n
    by more true b c false f p q s t u v = absurd (omega (arith, ltb-true _ _ p, ltb-false _ _ t))
    by more false true true true f p q s t u v = rw (p, q, s, t) refl
    by more false true true false f p q s t u v = absurd (omega (arith, eqb-true _ _ q, ltb-false _ _ t))
    by more false true false e true p q s t u v = absurd (false≢true (sym (below_rows (r.instance + 1) j rs h.1 (omega (arith, eqb-true _ _ q))) ∙ u))
    by more false true false e false p q s t u v = absurd (false≢true v)
    by more false false c e true p q s t u v = absurd (false≢true (sym (below_rows (r.instance + 1) j rs h.1 (omega (arith, ltb-false _ _ p))) ∙ u))
    by more false false true e false p q s t u v = absurd (false≢true v)
    by more false false false e false p q s t u v = absurd (false≢true v)

-- and at an undecided one
pub undecided_stays : (j : ℕ) (rows : List Row) → is_decided_at j rows ≡ false → undecided_from j rows ≡ j
undecided_stays j [] h = refl
undecided_stays j (r ∷ rs) h = by (λ e. undecided_stays j rs e) (ltb r.instance j) (eqb r.instance j) (is_decided r) refl refl refl h
  where
    by : (is_decided_at j rs ≡ false → undecided_from j rs ≡ j) → (a b c : Bool) → ltb r.instance j ≡ a → eqb r.instance j ≡ b → is_decided r ≡ c → ((b && c) || is_decided_at j rs) ≡ false → undecided_from j (r ∷ rs) ≡ j
    by more true true true p q s v = absurd (false≢true (sym v))
    by more true true false p q s v = rw p (more v)
    by more true false c p q s v = rw p (more v)
    by more false true true p q s v = absurd (false≢true (sym v))
    by more false true false p q s v = rw (p, q, s) refl
    by more false false c p q s v = rw (p, q) refl

-- what other rows have decided is passed by rows that have decided it too
pub undecided_skips : (over rows : List Row) (from : ℕ) → AscendFrom 0 over → ((j : ℕ) → is_decided_at j rows ≡ true → is_decided_at j over ≡ true) → undecided_from (undecided_from from rows) over ≡ undecided_from from over
undecided_skips over [] from a h = refl
undecided_skips over (r ∷ rs) from a h = by (λ i. undecided_skips over rs i a (λ j e. h j (or_right _ _ e))) (ltb r.instance from) (eqb r.instance from) (is_decided r) refl refl refl
  where
    or_right : (x y : Bool) → y ≡ true → (x || y) ≡ true
    or_right true y e = refl
    or_right false y e = e

    by : ((i : ℕ) → undecided_from (undecided_from i rs) over ≡ undecided_from i over) → (x y z : Bool) → ltb r.instance from ≡ x → eqb r.instance from ≡ y → is_decided r ≡ z → undecided_from (undecided_from from (r ∷ rs)) over ≡ undecided_from from over
    by more true y z p q s = rw p (more from)
    by more false true true p q s =
        let there : is_decided_at from (r ∷ rs) ≡ true = rw (q, s) refl in
        rw (p, q, s) (more (from + 1) ∙ sym (decided_passed 0 from over a (h from there)))
    by more false true false p q s = rw (p, q, s) refl
    by more false false z p q s = rw (p, q) refl

-- an instance that the rows below have decided is decided by the changed ones over them too
over_decides : (rs rows : List Row) (j : ℕ) → KeepDecisions rs rows → is_decided_at j (put_rows rs rows) ≡ (is_decided_at j rs || is_decided_at j rows)
over_decides rs rows j k = passes_changed (λ i. eqb i j) rs rows k

pub above_changed : (first : ℕ) (rs rows : List Row) → KeepDecisions rs rows → list_any (λ (r : Row). ltb first r.instance && is_decided r) (put_rows rs rows) ≡ (list_any (λ (r : Row). ltb first r.instance && is_decided r) rs || list_any (λ (r : Row). ltb first r.instance && is_decided r) rows)
above_changed first rs rows k = passes_changed (λ i. ltb first i) rs rows k

below_too : (rs rows : List Row) → KeepDecisions rs rows → (j : ℕ) → is_decided_at j rows ≡ true → is_decided_at j (put_rows rs rows) ≡ true
below_too rs rows k j e = over_decides rs rows j k ∙ by (is_decided_at j rs) (is_decided_at j rows) e
  where
    by : (a b : Bool) → b ≡ true → (a || b) ≡ true
    by true b f = refl
    by false b f = f

-- the lowest undecided instance by the rows below comes first
pub from_base : (rs rows : List Row) (from lowest : ℕ) → AscendFrom 0 rows → KeepDecisions rs rows → lowest ≡ undecided_from from rows → undecided_from lowest (put_rows rs rows) ≡ undecided_from from (put_rows rs rows)
from_base rs rows from lowest a k e = ap (λ (i : ℕ). undecided_from i (put_rows rs rows)) e ∙ undecided_skips (put_rows rs rows) rows from (changed_ascend rs rows a) (below_too rs rows k)

-- where a changed row has decided it, the next one by the rows below does
pub next_base : (rs rows : List Row) (j lowest : ℕ) → AscendFrom 0 rows → KeepDecisions rs rows → is_decided_at j rs ≡ true → lowest ≡ undecided_from (j + 1) rows → undecided_from lowest (put_rows rs rows) ≡ undecided_from j (put_rows rs rows)
next_base rs rows j lowest a k d e =
    let there : is_decided_at j (put_rows rs rows) ≡ true = over_decides rs rows j k ∙ rw d refl in
    from_base rs rows (j + 1) lowest a k e ∙ sym (decided_passed 0 j (put_rows rs rows) (changed_ascend rs rows a) there)

-- the lowest undecided instance is undecided
pub lowest_open : (rows : List Row) (from j : ℕ) → AscendFrom 0 rows → j ≡ undecided_from from rows → is_decided_at j rows ≡ false
lowest_open rows from j a e = by (is_decided_at j rows) refl
  where
    above : (i : ℕ) (os : List Row) → i ≤ undecided_from i os
    above i [] = omega arith
    above i (o ∷ os) = more (above i os) (above (i + 1) os) (ltb o.instance i) (eqb o.instance i && is_decided o)
      where
        more : i ≤ undecided_from i os → i + 1 ≤ undecided_from (i + 1) os → (x y : Bool) → i ≤ cond x (undecided_from i os) (cond y (undecided_from (i + 1) os) i)
        more f g true y = f
        more f g false true = omega arith
        more f g false false = omega arith

    by : (b : Bool) → is_decided_at j rows ≡ b → is_decided_at j rows ≡ false
    by false h = h
    by true h =
        let same : undecided_from j rows ≡ j = ap (λ (i : ℕ). undecided_from i rows) e ∙ undecided_skips rows rows from a (λ i d. d) ∙ sym e in
        let next : undecided_from j rows ≡ undecided_from (j + 1) rows = decided_passed 0 j rows a h in
        let more : j + 1 ≤ undecided_from (j + 1) rows = above (j + 1) rows in
        absurd (omega arith)

-- and where no changed row has decided it, it is the one
pub none_between : (rs rows : List Row) (j : ℕ) → KeepDecisions rs rows → is_decided_at j rs ≡ false → is_decided_at j rows ≡ false → undecided_from j (put_rows rs rows) ≡ j
none_between rs rows j k d e =
    let off : is_decided_at j (put_rows rs rows) ≡ false = over_decides rs rows j k ∙ rw (d, e) refl in
    undecided_stays j (put_rows rs rows) off

-- a row that has decided is among the changed ones, if one of this instance is
none_at : (j : ℕ) (rs : List Row) → list_any (λ r. is_decided r) rs ≡ false → is_decided_at j rs ≡ false
none_at j [] h = refl
none_at j (r ∷ rs) h = by (is_decided r) (eqb r.instance j) refl h (λ k. none_at j rs k)
  where
    by : (a b : Bool) → is_decided r ≡ a → (a || list_any (λ q. is_decided q) rs) ≡ false → (list_any (λ q. is_decided q) rs ≡ false → is_decided_at j rs ≡ false) → ((b && is_decided r) || is_decided_at j rs) ≡ false
    by true b e k more = absurd (false≢true (sym k))
    by false true e k more = rw e (more k)
    by false false e k more = more k

same_lowest : (rs rows : List Row) → AscendFrom 0 rows → KeepDecisions rs rows → list_any (λ r. is_decided r) rs ≡ false → (i : ℕ) → undecided_from i (put_rows rs rows) ≡ undecided_from i rows
same_lowest rs rows a k none i =
    let u = undecided_from i rows in
    sym (from_base rs rows i u a k refl) ∙ none_between rs rows u k (none_at u rs none) (lowest_open rows i u a refl)

-- the lowest undecided instances stay where no changed row has decided
pub open_stays : (rs rows : List Row) → AscendFrom 0 rows → KeepDecisions rs rows → list_any (λ r. is_decided r) rs ≡ false → (n i : ℕ) → lowest_undecided n i (put_rows rs rows) ≡ lowest_undecided n i rows
open_stays rs rows a k none zero i = refl
open_stays rs rows a k none (suc n) i =
    rw (same_lowest rs rows a k none i)
    (ap (λ (xs : List ℕ). cond (ltb (undecided_from i rows) 1048576) (undecided_from i rows ∷ xs) []) (open_stays rs rows a k none n (undecided_from i rows + 1)))

-- by the changed rows, or else by those below
pub above_then : (first : ℕ) (rs rows : List Row) (x : Bool) → KeepDecisions rs rows → x ≡ list_any (λ (r : Row). ltb first r.instance && is_decided r) rs → x ≡ true → x ≡ list_any (λ (r : Row). ltb first r.instance && is_decided r) (put_rows rs rows)
above_then first rs rows x k e t = t ∙ sym (above_changed first rs rows k ∙ rw (sym e ∙ t) refl)

pub above_else : (first : ℕ) (rs rows : List Row) (x y : Bool) → KeepDecisions rs rows → x ≡ list_any (λ (r : Row). ltb first r.instance && is_decided r) rs → x ≡ false → y ≡ list_any (λ (r : Row). ltb first r.instance && is_decided r) rows → y ≡ list_any (λ (r : Row). ltb first r.instance && is_decided r) (put_rows rs rows)
above_else first rs rows x y k e t f = f ∙ sym (above_changed first rs rows k ∙ rw (sym e ∙ t) refl)

-- a row with the standing of the one there leaves a decision alone
pub keeps_standing : (rows : List Row) (i : ℕ) (o r : Row) → row_of rows i ≡ Some o → r.instance ≡ o.instance → r.standing ≡ o.standing → KeepsDecision rows r
keeps_standing rows i o r there same stands v d =
    let at : row_of rows r.instance ≡ Some o = ap (row_of rows) (same ∙ row_is_of rows i o there) ∙ there in
    ap (λ (s : Standing). decision_of (Some s)) stands ∙ sym (ap (λ (x : Option Row). decision_of (option_map (λ o. o.standing) x)) at) ∙ d

-- the row there, of which a tally was changed, stands where it stood
pub still_stands : (rows : List Row) (i : ℕ) (o r : Row) → row_of rows i ≡ Some o → r.instance ≡ o.instance → r.standing ≡ o.standing → option_map (λ (q : Row). q.standing) (row_of rows r.instance) ≡ Some r.standing
still_stands rows i o r there same stands = ap (λ (x : Option Row). option_map (λ (q : Row). q.standing) x) (ap (row_of rows) (same ∙ row_is_of rows i o there) ∙ there) ∙ ap Some (sym stands)

-- so it leaves a decision alone
pub tally_keeps : (rows : List Row) (r : Row) → option_map (λ (q : Row). q.standing) (row_of rows r.instance) ≡ Some r.standing → KeepsDecision rows r
tally_keeps rows r h v d = sym (ap decision_of h) ∙ d

-- and so does the row after a fact after which its standing does
pub after_keeps : (k : ℕ) (f : Fact) (rows : List Row) (o r : Row) → row_of rows (instance_of f) ≡ Some o → after_fact (Some o.standing) f ≡ Some r.standing → r ≡ row_after k f r.standing o → KeepsStanding (option_map (λ (q : Row). q.standing) (row_of rows (instance_of f))) (after_fact (option_map (λ (q : Row). q.standing) (row_of rows (instance_of f))) f) → KeepsDecision rows r
after_keeps k f rows o r there stands e h v d =
    let of : r.instance ≡ instance_of f = ap (λ (x : Row). x.instance) e ∙ row_is_of rows (instance_of f) o there in
    let after : after_fact (option_map (λ (q : Row). q.standing) (row_of rows (instance_of f))) f ≡ Some r.standing = ap (λ (x : Option Row). after_fact (option_map (λ (q : Row). q.standing) x) f) there ∙ stands in
    sym (ap decision_of after) ∙ h v (sym (ap (λ (i : ℕ). decision_of (option_map (λ (q : Row). q.standing) (row_of rows i))) of) ∙ d)

-- as does the first row of an instance
pub first_keeps : (k : ℕ) (f : Fact) (rows : List Row) (r : Row) → row_of rows (instance_of f) ≡ None → r ≡ row_after k f r.standing (fresh_row (instance_of f) r.standing) → KeepsDecision rows r
first_keeps k f rows r none e v d =
    let of : r.instance ≡ instance_of f = ap (λ (x : Row). x.instance) e in
    absurd (none-some v (sym (ap (λ (i : ℕ). decision_of (option_map (λ (q : Row). q.standing) (row_of rows i))) of ∙ ap (λ (x : Option Row). decision_of (option_map (λ (q : Row). q.standing) x)) none) ∙ d))

-- the rows after a fact, by the row of its instance
pub rows_put : (k : ℕ) (f : Fact) (rows : List Row) (o r : Row) → row_of rows (instance_of f) ≡ Some o → after_fact (Some o.standing) f ≡ Some r.standing → r ≡ row_after k f r.standing o → put_row r rows ≡ rows_after k f rows
rows_put k f rows o r there stands e =
    let is : rows_after k f rows ≡ put_row (row_after k f r.standing o) rows = rw (there, stands) refl in
    ap (λ (x : Row). put_row x rows) e ∙ sym is

pub rows_begin : (k : ℕ) (f : Fact) (rows : List Row) (r : Row) → row_of rows (instance_of f) ≡ None → after_fact None f ≡ Some r.standing → r ≡ row_after k f r.standing (fresh_row (instance_of f) r.standing) → put_row r rows ≡ rows_after k f rows
rows_begin k f rows r none stands e =
    let is : rows_after k f rows ≡ put_row (row_after k f r.standing (fresh_row (instance_of f) r.standing)) rows = rw (none, stands) refl in
    ap (λ (x : Row). put_row x rows) e ∙ sym is

pub rows_stay : (k : ℕ) (f : Fact) (rows : List Row) → row_of rows (instance_of f) ≡ None → after_fact None f ≡ None → rows_after k f rows ≡ rows
rows_stay k f rows none h = rw (none, h) refl

-- the oldest changed row is put first
pub put_last : (rs rows : List Row) (r : Row) → put_rows (rs ++ r ∷ []) rows ≡ put_rows rs (put_row r rows)
put_last [] rows r = refl
put_last (q ∷ rs) rows r = ap (put_row q) (put_last rs rows r)

-- of two rows of one instance that are put one after another, the last is there
put_twice : (r o : Row) (rows : List Row) → r.instance ≡ o.instance → put_row r (put_row o rows) ≡ put_row r rows
put_twice r o [] same =
    let off : ltb r.instance o.instance ≡ false = le-ltb _ _ (omega (arith, same)) in
    let on : eqb r.instance o.instance ≡ true = eq-eqb _ _ same in
    rw (off, on) refl
put_twice r o (p ∷ ps) same = by (put_twice r o ps same) (ltb o.instance p.instance) (eqb o.instance p.instance) refl refl
  where
    by : put_row r (put_row o ps) ≡ put_row r ps → (a b : Bool) → ltb o.instance p.instance ≡ a → eqb o.instance p.instance ≡ b → put_row r (put_row o (p ∷ ps)) ≡ put_row r (p ∷ ps)
    by more a b e f = by_both more a b e f (ap (λ (i : ℕ). ltb i p.instance) same ∙ e) (ap (λ (i : ℕ). eqb i p.instance) same ∙ f)
      where
        off : ltb r.instance o.instance ≡ false
        off = le-ltb _ _ (omega (arith, same))

        on : eqb r.instance o.instance ≡ true
        on = eq-eqb _ _ same

        by_both : put_row r (put_row o ps) ≡ put_row r ps → (a b : Bool) → ltb o.instance p.instance ≡ a → eqb o.instance p.instance ≡ b → ltb r.instance p.instance ≡ a → eqb r.instance p.instance ≡ b → put_row r (put_row o (p ∷ ps)) ≡ put_row r (p ∷ ps)
        by_both m true b g h i j = rw (g, i, off, on) refl
        by_both m false true g h i j = rw (g, h, i, j, off, on) refl
        by_both m false false g h i j = rw (g, h, i, j) (ap (λ (x : List Row). p ∷ x) m)

-- a row takes the place of the newest changed one, which is of its instance
pub replaced_rows : (rs new : List Row) (r d : Row) → 0 < length rs → (get_or rs 0 d).instance ≡ r.instance → new ≡ set rs 0 r → (rows : List Row) → put_rows new rows ≡ put_row r (put_rows rs rows)
replaced_rows [] new r d l same e rows = absurd (omega arith)
replaced_rows (o ∷ os) new r d l same e rows = ap (λ (x : List Row). put_rows x rows) e ∙ sym (put_twice r o (put_rows os rows) (sym same))

pub replaced_keep : (rs new : List Row) (r d : Row) → 0 < length rs → (get_or rs 0 d).instance ≡ r.instance → new ≡ set rs 0 r → (rows : List Row) → KeepDecisions rs rows → KeepsDecision (put_rows rs rows) r → KeepDecisions new rows
replaced_keep [] new r d l same e rows k h = absurd (omega arith)
replaced_keep (o ∷ os) new r d l same e rows k h =
    subst (λ (x : List Row). KeepDecisions x rows) (sym e) (kept, k.1)
  where
    there : row_of (put_rows (o ∷ os) rows) r.instance ≡ Some o
    there = row_of_put o (put_rows os rows) r.instance ∙ (let on : eqb o.instance r.instance ≡ true = eq-eqb _ _ same in rw on refl)

    kept : KeepsDecision (put_rows os rows) r
    kept v d =
        h v (ap (λ (x : Option Row). decision_of (option_map (λ (q : Row). q.standing) x)) there
        ∙ k.0 v (ap (λ (i : ℕ). decision_of (option_map (λ (q : Row). q.standing) (row_of (put_rows os rows) i))) same ∙ d))

-- what is decided stays decided with one more changed row
pub decided_stay : (rows : List Row) (r : Row) (q : RequestNo) → KeepsDecision rows r → list_any (has_decided q) rows ≡ true → list_any (has_decided q) (put_row r rows) ≡ true
decided_stay rows r q k h = request_changed q (r ∷ []) rows (k, tt) ∙ rw h (ends (has_decided q r || false))
  where
    ends : (a : Bool) → (a || true) ≡ true
    ends true = refl
    ends false = refl

-- a decision is decided by the rows after it
decides : (k i : ℕ) (v : Command) (rows : List Row) → list_any (has_decided v.request) (rows_after k (Decide i v) rows) ≡ true
decides k i v rows = by (row_of rows i) refl
  where
    itself : is_same_request v.request v.request ≡ true
    itself = let a : eqb v.request.client v.request.client ≡ true = eq-eqb _ _ refl in let b : eqb v.request.seq v.request.seq ≡ true = eq-eqb _ _ refl in rw (a, b) refl

    there : (r : Row) (os : List Row) → has_decided v.request r ≡ true → list_any (has_decided v.request) (put_row r os) ≡ true
    there r [] h = rw h refl
    there r (o ∷ os) h = more (there r os h) (ltb r.instance o.instance) (eqb r.instance o.instance)
      where
        more : list_any (has_decided v.request) (put_row r os) ≡ true → (a b : Bool) → list_any (has_decided v.request) (cond a (r ∷ o ∷ os) (cond b (r ∷ os) (o ∷ put_row r os))) ≡ true
        more m true b = rw h refl
        more m false true = rw h refl
        more m false false = rw m (ends (has_decided v.request o))
          where
            ends : (a : Bool) → (a || true) ≡ true
            ends true = refl
            ends false = refl

    by : (x : Option Row) → row_of rows i ≡ x → list_any (has_decided v.request) (rows_after k (Decide i v) rows) ≡ true
    by None g = rw g (there _ rows itself)
    by (Some o) g = rw g (there _ rows itself)

pub decision_decides : (f : Fact) (s t : Stepped) → t ≡ stepped (λ (u : NodeState). record u { rows = rows_after (next_number u) f u.rows }) s → IsDecidedFact f t.state.rows
decision_decides (Enter i e) s t h = tt
decision_decides (Propose i r v) s t h = tt
decision_decides (Adopt i r v) s t h = tt
decision_decides (Decide i v) s t h = ap (λ (u : Stepped). list_any (has_decided v.request) u.state.rows) h ∙ decides (next_number s.state) i v s.state.rows

-- the changed rows, the oldest first, put one after another
listed_last : (rows rs : List Row) (r : Row) → listed.put_rows rows (rs ++ r ∷ []) ≡ put_row r (listed.put_rows rows rs)
listed_last rows [] r = refl
listed_last rows (q ∷ rs) r = listed_last (put_row q rows) rs r

pub put_reversed : (rs rows : List Row) → listed.put_rows rows (reverse rs) ≡ put_rows rs rows
put_reversed [] rows = refl
put_reversed (r ∷ rs) rows = ap (listed.put_rows rows) (reverse-append (r ∷ []) rs) ∙ listed_last rows (reverse rs) r ∙ ap (put_row r) (put_reversed rs rows)

-- where each changed row leaves a decision alone, all decisions stay
pub decisions_stay : (rs rows : List Row) → KeepDecisions rs rows → listed.KeepsDecisions rows (put_rows rs rows)
decisions_stay [] rows k i v e = e
decisions_stay (r ∷ rs) rows k i v e =
    ap (λ (x : Option Row). decision_of (option_map (λ (o : Row). o.standing) x)) (row_of_put r (put_rows rs rows) i) ∙ by (decisions_stay rs rows k.1 i v e) (eqb r.instance i) refl
  where
    by : listed.decision_at (put_rows rs rows) i ≡ Some v → (b : Bool) → eqb r.instance i ≡ b → decision_of (option_map (λ (o : Row). o.standing) (cond b (Some r) (row_of (put_rows rs rows) i))) ≡ Some v
    by before true f = k.0 v (ap (λ (j : ℕ). listed.decision_at (put_rows rs rows) j) (eqb-true _ _ f) ∙ before)
    by before false f = before

pub reversed_stay : (rs rows after : List Row) → after ≡ reverse rs → KeepDecisions rs rows → listed.KeepsDecisions rows (listed.put_rows rows after)
reversed_stay rs rows after e k = subst (listed.KeepsDecisions rows) (sym (ap (listed.put_rows rows) e ∙ put_reversed rs rows)) (decisions_stay rs rows k)

-- the newest changed row is the one of its instance
newest_there : (o : Row) (os rows : List Row) (i : ℕ) → o.instance ≡ i → row_of (put_rows (o ∷ os) rows) i ≡ Some o
newest_there o os rows i same = row_of_put o (put_rows os rows) i ∙ (let on : eqb o.instance i ≡ true = eq-eqb _ _ same in rw on refl)

-- what it is after a fact about that
pub record Newest (k : ℕ) (f : Fact) (rs rows : List Row) (r : Row) : Type 0 where
  pub old : Row
  pub there : row_of (put_rows rs rows) (instance_of f) ≡ Some old
  pub here : (get_or rs 0 old).instance ≡ r.instance
  pub stands : after_fact (Some old.standing) f ≡ Some r.standing
  pub is : r ≡ row_after k f r.standing old

pub newest : (k : ℕ) (f : Fact) (rs rows : List Row) (o r : Row) (d : Row) → 0 < length rs → get_or rs 0 d ≡ o → o.instance ≡ instance_of f → after_fact (Some o.standing) f ≡ Some r.standing → r ≡ row_after k f r.standing o → Newest k f rs rows r
newest k f [] rows o r d l at same stands is = absurd (omega arith)
newest k f (p ∷ os) rows o r d l at same stands is =
    let first : p.instance ≡ instance_of f = ap (λ (x : Row). x.instance) at ∙ same in
    record {
      old = o;
      there = newest_there p os rows (instance_of f) first ∙ ap Some at;
      here = first ∙ sym (ap (λ (x : Row). x.instance) is ∙ same);
      stands = stands;
      is = is;
    }

-- with it the rows are those after the fact
pub newest_rows : (k : ℕ) (f : Fact) (rs new rows : List Row) (r : Row) → 0 < length rs → new ≡ set rs 0 r → Newest k f rs rows r → put_rows new rows ≡ rows_after k f (put_rows rs rows)
newest_rows k f rs new rows r l e n = replaced_rows rs new r n.old l n.here e rows ∙ rows_put k f (put_rows rs rows) n.old r n.there n.stands n.is

newest_keeps : (k : ℕ) (f : Fact) (rs rows : List Row) (r : Row) → Newest k f rs rows r → KeepsStanding (option_map (λ (q : Row). q.standing) (row_of (put_rows rs rows) (instance_of f))) (after_fact (option_map (λ (q : Row). q.standing) (row_of (put_rows rs rows) (instance_of f))) f) → KeepsDecision (put_rows rs rows) r
newest_keeps k f rs rows r n h = after_keeps k f (put_rows rs rows) n.old r n.there n.stands n.is h

pub newest_keep : (k : ℕ) (f : Fact) (rs new rows : List Row) (r : Row) → 0 < length rs → new ≡ set rs 0 r → Newest k f rs rows r → KeepDecisions rs rows → KeepsStanding (option_map (λ (q : Row). q.standing) (row_of (put_rows rs rows) (instance_of f))) (after_fact (option_map (λ (q : Row). q.standing) (row_of (put_rows rs rows) (instance_of f))) f) → KeepDecisions new rows
newest_keep k f rs new rows r l e n d h = replaced_keep rs new r n.old l n.here e rows d (newest_keeps k f rs rows r n h)

-- and what was decided still is
pub newest_stay : (k : ℕ) (f : Fact) (rs new rows : List Row) (r : Row) → 0 < length rs → new ≡ set rs 0 r → Newest k f rs rows r → KeepsStanding (option_map (λ (q : Row). q.standing) (row_of (put_rows rs rows) (instance_of f))) (after_fact (option_map (λ (q : Row). q.standing) (row_of (put_rows rs rows) (instance_of f))) f) → (q : RequestNo) → list_any (has_decided q) (put_rows rs rows) ≡ true → list_any (has_decided q) (put_rows new rows) ≡ true
newest_stay k f rs new rows r l e n h q t = ap (list_any (has_decided q)) (replaced_rows rs new r n.old l n.here e rows) ∙ decided_stay (put_rows rs rows) r q (newest_keeps k f rs rows r n h) t

-- a first row that stays leaves all as it was
pub first_stays : (rs new : List Row) (r d : Row) → 0 < length rs → get_or rs 0 d ≡ r → new ≡ set rs 0 r → new ≡ rs
first_stays [] new r d l at e = absurd (omega arith)
first_stays (p ∷ os) new r d l at e = e ∙ ap (λ (x : Row). x ∷ os) (sym at)

pub newest_there_at : (rs rows : List Row) (i : ℕ) (o d : Row) → 0 < length rs → get_or rs 0 d ≡ o → o.instance ≡ i → row_of (put_rows rs rows) i ≡ Some o
newest_there_at [] rows i o d l at same = absurd (omega arith)
newest_there_at (p ∷ os) rows i o d l at same = newest_there p os rows i (ap (λ (x : Row). x.instance) at ∙ same) ∙ ap Some at
