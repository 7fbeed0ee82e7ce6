-- What instances have decided, taken into a table.
use Rattle.std.proofs.Common.{◌≡◌, ℕ, ◌+◌, ◌-◌, ◌<◌, ◌≤◌, Bool, true, false, cond, ◌==◌, nat_lt, ◌||◌, ◌&&◌, List, [], ◌∷◌, ◌++◌, map, length, take, get_or, Option, None, Some, option_map, is_some, IsTrue, IfSome, refl, ap, sym, ◌∙◌, arith, subst, eqb-true}
use Rattle.std.specs.Option.{option_map_or}
use Rattle.std.specs.List.{list_any, All}
use Rattle.std.specs.BTreeMap.{is_at}
use Rattle.std.specs.Map.{lookup}
use Rattle.std.proofs.lemmas.Bool.{ne_eqb, eq-eqb, lt-ltb, ltb-true, ltb-false, eqb-false}
use Rattle.std.proofs.lemmas.List.{take_more}
use Rattle.std.proofs.lemmas.List.Elements.{All-head, All-tail, All-cons}
use Rattle.std.proofs.lemmas.Option.{none-some, same_Some}
use Rattle.rr_types.specs.declared.command.RequestNo.{RequestNo}
use Rattle.rr_types.specs.declared.command.Command.{Command}
use Rattle.rr_types.specs.declared.promise.Standing.{Standing}
use Rattle.rr_types.specs.declared.promise.Standing.TheVariants.{Decided, Open}
use Rattle.rr_types.specs.Registry.{is_same_request}
use Rattle.rr_types.specs.Facts.{decision_of}
use Rattle.rr_registry.specs.Kept.{request_cmp}
use Rattle.rr_registry.proofs.TableLemmas.{eq-request_cmp}
use Rattle.rr_model.specs.NodeState.{Row, row_of, put_row, is_decided, decided_command}
use Rattle.rr_model.proofs.NodeRows.{row_of-put_row, row_of_instance}
use Rattle.rr_model.proofs.SameCommands.{request_same, same_request}
use Rattle.rr_registry.specs.Places.{filled, has_place}
use Rattle.rr_registry.proofs.PlaceLemmas.{place_of_value}
use Rattle.rr_state.specs.Listed.{put_rows, decision_at, KeepsDecisions}
use Rattle.rr_state.specs.Rowed.{rows_in, AreKeyed, AscendFrom, AreInstances, has_decided, is_held, AreDecided, HoldsDecided, IsReached, has_request_place, HavePlaces, IsNoted, LieBelow, IsTable}
use Rattle.rr_state.proofs.TableLemmas.{at_any, any_at, decision_some}

-- an instance that has decided has a row
row_decided : (rows : List Row) (i : ℕ) (v : Command) → decision_at rows i ≡ Some v → (r : Row) × (row_of rows i ≡ Some r) × (decided_command r ≡ Some v)
row_decided rows i v h = at (row_of rows i) refl h
  where
    at : (o : Option Row) → row_of rows i ≡ o → decision_of (option_map (λ (r : Row). r.standing) o) ≡ Some v → (r : Row) × (row_of rows i ≡ Some r) × (decided_command r ≡ Some v)
    at None e d = absurd (none-some v d)
    at (Some r) e d = (r, e, d)

decided_by : (q : RequestNo) (r : Row) (o : Option Command) → decided_command r ≡ o → (v : Command) → o ≡ Some v → has_decided q r ≡ is_same_request v.request q
decided_by q r o e v h = ap (λ x. option_map_or (λ (w : Command). is_same_request w.request q) x false) (e ∙ h)

-- a decision counts for its request
pub any_decided : (rows : List Row) (i : ℕ) (v : Command) (q : RequestNo) → decision_at rows i ≡ Some v → is_same_request v.request q ≡ true → list_any (has_decided q) rows ≡ true
any_decided rows i v q h s = let r = row_decided rows i v h in at_any (has_decided q) rows i r.0 r.1 (decided_by q r.0 (Some v) r.2 v refl ∙ s)

-- and a request that counts is a decision's
pub decided_any : (low : ℕ) (rows : List Row) (q : RequestNo) → AscendFrom low rows → list_any (has_decided q) rows ≡ true → (i : ℕ) × (v : Command) × (decision_at rows i ≡ Some v) × (is_same_request v.request q ≡ true)
decided_any low rows q h t = at (any_at (has_decided q) low rows h t)
  where
    by : (r : Row) → row_of rows r.instance ≡ Some r → (o : Option Command) → decided_command r ≡ o → option_map_or (λ (w : Command). is_same_request w.request q) o false ≡ true → (i : ℕ) × (v : Command) × (decision_at rows i ≡ Some v) × (is_same_request v.request q ≡ true)
    by r at None e d = cc
    by r at (Some v) e d = (r.instance, v, decision_some rows r.instance r at ∙ e, d)

    at : (r : Row) × (row_of rows r.instance ≡ Some r) × (has_decided q r ≡ true) × (low ≤ r.instance) → (i : ℕ) × (v : Command) × (decision_at rows i ≡ Some v) × (is_same_request v.request q ≡ true)
    at m = by m.0 m.1 (decided_command m.0) refl m.2

same_bool : (a b : Bool) → (a ≡ true → b ≡ true) → (b ≡ true → a ≡ true) → a ≡ b
same_bool true b f g = sym (f refl)
same_bool false true f g = g refl
same_bool false false f g = refl

-- the table of requests has just those that are decided
pub held_is_decided : (es : List (ℕ × Row)) (requests : List (RequestNo × Unit {0})) (end : ℕ) (q : RequestNo) → IsTable es requests end → is_held requests q ≡ list_any (has_decided q) (rows_in es)
held_is_decided es requests end q h =
    same_bool (is_held requests q) (list_any (has_decided q) (rows_in es)) (h.decided q)
    (λ t. let d = decided_any 0 (rows_in es) q h.ascend t in subst (λ z. is_held requests z ≡ true) (same_request d.1.request q d.3) (h.holds d.0 d.1 d.2))

-- whether a row lies above an instance and has decided
abbrev pub is_decided_above : ℕ → Row → Bool
is_decided_above i r = nat_lt i r.instance && is_decided r

decided_of : (r : Row) (s : Standing) → r.standing ≡ s → is_decided r ≡ true → (v : Command) × (decided_command r ≡ Some v)
decided_of r (Decided v) e d = (v, rw e refl)
decided_of r (Open o) e d = let x = rw e at d in cc

is_decided_by : (r : Row) (s : Standing) → r.standing ≡ s → (v : Command) → decided_command r ≡ Some v → is_decided r ≡ true
is_decided_by r (Decided w) e v d = rw e refl
is_decided_by r (Open o) e v d = let x = rw e at d in cc

both : (a b : Bool) → (a && b) ≡ true → (a ≡ true) × (b ≡ true)
both true b h = (refl, h)
both false b h = cc

some_of : {A : Type 0} (o : Option A) → is_some o ≡ true → (x : A) × (o ≡ Some x)
some_of None h = cc
some_of (Some x) h = (x, refl)

-- an instance above has decided where the end lies above the next one
pub above_is_decided : (es : List (ℕ × Row)) (requests : List (RequestNo × Unit {0})) (end i : ℕ) → IsTable es requests end → 0 < end → nat_lt i (end - 1) ≡ list_any (is_decided_above i) (rows_in es)
above_is_decided es requests end i h p =
    same_bool (nat_lt i (end - 1)) (list_any (is_decided_above i) (rows_in es))
    (λ t.
    let v = some_of (decision_at (rows_in es) (end - 1)) (h.reached p) in
    let r = row_decided (rows_in es) (end - 1) v.0 v.1 in
    let at : r.0.instance ≡ end - 1 = row_of_instance (rows_in es) (end - 1) r.0 r.1 in
    at_any (is_decided_above i) (rows_in es) (end - 1) r.0 r.1 (rw (at, t) (is_decided_by r.0 r.0.standing refl v.0 r.2)))
    (λ t.
    let r = any_at (is_decided_above i) 0 (rows_in es) h.ascend t in
    let b = both (nat_lt i r.0.instance) (is_decided r.0) r.2 in
    let v = decided_of r.0 r.0.standing refl b.1 in
    let l = h.above r.0.instance v.0 (decision_some (rows_in es) r.0.instance r.0 r.1 ∙ v.1) in
    let k = ltb-true _ _ b.0 in
    lt-ltb _ _ (omega arith))

-- with the end at 0 nothing has decided
pub none_decided : (es : List (ℕ × Row)) (requests : List (RequestNo × Unit {0})) (end i : ℕ) → IsTable es requests end → end ≡ 0 → false ≡ list_any (is_decided_above i) (rows_in es)
none_decided es requests end i h e =
    same_bool false (list_any (is_decided_above i) (rows_in es)) (λ t. cc)
    (λ t.
    let r = any_at (is_decided_above i) 0 (rows_in es) h.ascend t in
    let b = both (nat_lt i r.0.instance) (is_decided r.0) r.2 in
    let v = decided_of r.0 r.0.standing refl b.1 in
    let l = h.above r.0.instance v.0 (decision_some (rows_in es) r.0.instance r.0 r.1 ∙ v.1) in
    absurd (omega (arith, e)))

only_one : (i j : ℕ) → list_any (λ k. k == j) (i ∷ []) ≡ true → i ≡ j
only_one i j h = at (i == j) refl h
  where
    at : (b : Bool) → (i == j) ≡ b → (b || false) ≡ true → i ≡ j
    at true e t = eqb-true i j e
    at false e t = cc

-- an instance that hasn't decided
pub noted_none : (rows : List Row) (i : ℕ) (before : List (RequestNo × Unit {0})) (end : ℕ) → decision_at rows i ≡ None → IsNoted rows (i ∷ []) before before end end
noted_none rows i before end h = record {
  decided = λ d. d;
  grown = λ q d. d;
  held = λ j v any d. absurd (none-some v (sym h ∙ ap (decision_at rows) (only_one i j any) ∙ d));
  risen = omega arith;
  reached = λ d. d;
}

held_by : (b : Bool) (o : Option (Unit {0})) → is_some o ≡ true → is_some (cond b (Some tt) o) ≡ true
held_by true o h = refl
held_by false o h = h

-- an instance that has decided
pub noted_put : (rows : List Row) (i : ℕ) (v : Command) (before after : List (RequestNo × Unit {0})) (end higher : ℕ) → decision_at rows i ≡ Some v → ((q : RequestNo) → lookup (is_at (request_cmp q)) after ≡ cond (is_at (request_cmp v.request) q) (Some tt) (lookup (is_at (request_cmp q)) before)) → end ≤ higher → i < higher → (IsReached rows end → IsReached rows higher) → IsNoted rows (i ∷ []) before after end higher
noted_put rows i v before after end higher h u le lt reach = record {
  decided = λ d q t. by d q (is_at (request_cmp v.request) q) refl (sym (ap (λ o. is_some o) (u q)) ∙ t);
  grown = λ q t. ap (λ o. is_some o) (u q) ∙ held_by (is_at (request_cmp v.request) q) (lookup (is_at (request_cmp q)) before) t;
  held = λ j w any d. one j w (only_one i j any) d;
  risen = le;
  reached = reach;
}
  where
    by : AreDecided rows before → (q : RequestNo) → (b : Bool) → is_at (request_cmp v.request) q ≡ b → is_some (cond b (Some tt) (lookup (is_at (request_cmp q)) before)) ≡ true → list_any (has_decided q) rows ≡ true
    by d q true e t = any_decided rows i v q h (sym (eq-request_cmp v.request q) ∙ e)
    by d q false e t = d q t

    own : is_held after v.request ≡ true
    own = let s : is_at (request_cmp v.request) v.request ≡ true = eq-request_cmp v.request v.request ∙ request_same v.request in ap (λ o. is_some o) (u v.request ∙ ap (λ b. cond b (Some tt) (lookup (is_at (request_cmp v.request)) before)) s)

    one : (j : ℕ) (w : Command) → i ≡ j → decision_at rows j ≡ Some w → (is_held after w.request ≡ true) × (j < higher)
    one j w same d =
        let x : v ≡ w = same_Some v w (sym h ∙ ap (decision_at rows) same ∙ d) in
        (subst (λ (z : Command). is_held after z.request ≡ true) x own, omega (arith, same))

-- the end above an instance that has decided
pub reached_next : (rows : List Row) (i : ℕ) (v : Command) → decision_at rows i ≡ Some v → IsReached rows (i + 1)
reached_next rows i v h = λ p. let e : i + 1 - 1 ≡ i = omega arith in rw (e, h)

any_append : (p : ℕ → Bool) (xs : List ℕ) (y : ℕ) → list_any p (xs ++ y ∷ []) ≡ (list_any p xs || list_any p (y ∷ []))
any_append p [] y = refl
any_append p (x ∷ xs) y = at (p x) (any_append p xs y)
  where
    at : (b : Bool) → list_any p (xs ++ y ∷ []) ≡ (list_any p xs || list_any p (y ∷ [])) → (b || list_any p (xs ++ y ∷ [])) ≡ ((b || list_any p xs) || list_any p (y ∷ []))
    at true h = refl
    at false h = h

either : {Z : Type 0} → (a b : Bool) → (a || b) ≡ true → (a ≡ true → Z) → (b ≡ true → Z) → Z
either true b h f g = f refl
either false b h f g = g h

-- none yet
pub noted_nil : (rows : List Row) (before : List (RequestNo × Unit {0})) (end : ℕ) → IsNoted rows [] before before end end
noted_nil rows before end = record { decided = λ d. d; grown = λ q d. d; held = λ j v any d. cc; risen = omega arith; reached = λ d. d }

noted_push : (rows : List Row) (is : List ℕ) (i : ℕ) (before between after : List (RequestNo × Unit {0})) (end mid higher : ℕ) → IsNoted rows is before between end mid → IsNoted rows (i ∷ []) between after mid higher → IsNoted rows (is ++ i ∷ []) before after end higher
noted_push rows is i before between after end mid higher h k = record {
  decided = λ d. k.decided (h.decided d);
  grown = λ q d. k.grown q (h.grown q d);
  held = λ j v any d.
      either (list_any (λ x. x == j) is) (list_any (λ x. x == j) (i ∷ [])) (sym (any_append (λ x. x == j) is i) ∙ any)
      (λ a. let x = h.held j v a d in let l = k.risen in let m = x.1 in (k.grown v.request x.0, omega arith))
      (λ a. k.held j v a d);
  risen = let l = h.risen in let m = k.risen in omega arith;
  reached = λ d. k.reached (h.reached d);
}

-- one more
pub noted_more : (rows : List Row) (is : List ℕ) (at i : ℕ) (before between after : List (RequestNo × Unit {0})) (end mid higher : ℕ) → at < length is → i ≡ get_or is at i → IsNoted rows (take at is) before between end mid → IsNoted rows (i ∷ []) between after mid higher → IsNoted rows (take (at + 1) is) before after end higher
noted_more rows is at i before between after end mid higher l g h k =
    let e : take (at + 1) is ≡ take at is ++ i ∷ [] = take_more is at i l ∙ ap (λ x. take at is ++ x ∷ []) (sym g) in
    rw e (noted_push rows (take at is) i before between after end mid higher h k)

-- a place for each decision
put_cases : (row : Row) (rows : List Row) (i : ℕ) (b : Bool) → (row.instance == i) ≡ b → decision_at (put_row row rows) i ≡ cond b (decided_command row) (decision_at rows i)
put_cases row rows i true e = decision_some (put_row row rows) i row (row_of-put_row row rows i ∙ rw e)
put_cases row rows i false e = ap (λ o. decision_of (option_map (λ (r : Row). r.standing) o)) (row_of-put_row row rows i ∙ rw e)

place_by : (places : List (RequestNo × Option (Unit {0}))) (row : Row) (o : Option Command) (v : Command) → IsTrue (option_map_or (λ (w : Command). has_place request_cmp places w.request) o true) → o ≡ Some v → IsTrue (has_place request_cmp places v.request)
place_by places row None v h e = absurd (none-some v e)
place_by places row (Some w) v h e = subst (λ (z : Command). IsTrue (has_place request_cmp places z.request)) (same_Some w v e) h

put_place : (places : List (RequestNo × Option (Unit {0}))) (rows : List Row) (row : Row) → HavePlaces places rows → IsTrue (has_request_place places row) → HavePlaces places (put_row row rows)
put_place places rows row h k i v d = at (row.instance == i) refl
  where
    at : (b : Bool) → (row.instance == i) ≡ b → IsTrue (has_place request_cmp places v.request)
    at true e = place_by places row (decided_command row) v k (sym (put_cases row rows i true e) ∙ d)
    at false e = h i v (sym (put_cases row rows i false e) ∙ d)

pub put_places : (places : List (RequestNo × Option (Unit {0}))) (rows changes : List Row) → HavePlaces places rows → All (λ r. IsTrue (has_request_place places r)) changes → HavePlaces places (put_rows rows changes)
put_places places rows [] h a = h
put_places places rows (c ∷ cs) h a =
    put_places places (put_row c rows) cs (put_place places rows c h (All-head (λ (r : Row). IsTrue (has_request_place places r)) c cs a)) (All-tail (λ (r : Row). IsTrue (has_request_place places r)) c cs a)

-- what is held has a place
pub held_place : (places : List (RequestNo × Option (Unit {0}))) (rows : List Row) → HoldsDecided rows (filled places) → HavePlaces places rows
held_place places rows h i v d = place_of_value (is_at (request_cmp v.request)) places (h i v d)

-- the rows of other instances stay
stays_by : (row : Row) (rows : List Row) (is : List ℕ) (i : ℕ) → list_any (λ j. j == i) (row.instance ∷ is) ≡ false → (row_of (put_row row rows) i ≡ row_of rows i) × (list_any (λ j. j == i) is ≡ false)
stays_by row rows is i h = at (row.instance == i) refl h
  where
    at : (b : Bool) → (row.instance == i) ≡ b → (b || list_any (λ j. j == i) is) ≡ false → (row_of (put_row row rows) i ≡ row_of rows i) × (list_any (λ j. j == i) is ≡ false)
    at true e x = cc
    at false e x = (row_of-put_row row rows i ∙ rw e, x)

pub row_stays : (rows changes : List Row) (i : ℕ) → list_any (λ j. j == i) (map (λ (r : Row). r.instance) changes) ≡ false → row_of (put_rows rows changes) i ≡ row_of rows i
row_stays rows [] i h = refl
row_stays rows (c ∷ cs) i h =
    let s = stays_by c rows (map (λ (r : Row). r.instance) cs) i h in
    row_stays (put_row c rows) cs i s.1 ∙ s.0

ascend_by : (low : ℕ) (row r : Row) (rs : List Row) → AscendFrom low (r ∷ rs) → low ≤ row.instance → (r.instance + 1 ≤ row.instance → AscendFrom (r.instance + 1) (put_row row rs)) → (a b : Bool) → nat_lt row.instance r.instance ≡ a → (row.instance == r.instance) ≡ b → AscendFrom low (put_row row (r ∷ rs))
ascend_by low row r rs h l more true b x y = let k = ltb-true _ _ x in rw x (l, (omega arith, h.1))
ascend_by low row r rs h l more false true x y =
    let e : row.instance ≡ r.instance = eqb-true row.instance r.instance y in
    rw (x, y) (l, subst (λ z. AscendFrom (z + 1) rs) (sym e) h.1)
ascend_by low row r rs h l more false false x y =
    let p = ltb-false _ _ x in
    let q : row.instance ≡ r.instance → ⊥ = eqb-false _ _ y in
    rw (x, y) (h.0, more (omega (arith, p, q)))

-- a row put leaves the rows ascending
pub ascend_put : (low : ℕ) (row : Row) (rows : List Row) → AscendFrom low rows → low ≤ row.instance → AscendFrom low (put_row row rows)
ascend_put low row [] h l = (l, tt)
ascend_put low row (r ∷ rs) h l = ascend_by low row r rs h l (ascend_put (r.instance + 1) row rs h.1) (nat_lt row.instance r.instance) (row.instance == r.instance) refl refl

pub ascend_puts : (rows changes : List Row) → AscendFrom 0 rows → AscendFrom 0 (put_rows rows changes)
ascend_puts rows [] h = h
ascend_puts rows (c ∷ cs) h = ascend_puts (put_row c rows) cs (ascend_put 0 c rows h (omega arith))

below_put : (named : ℕ) (rows : List Row) (row : Row) → LieBelow named rows → row.instance < named → LieBelow named (put_row row rows)
below_put named rows row h l i m =
    let e : (row.instance == i) ≡ false = ne_eqb _ _ (λ x. omega (arith, x)) in
    row_of-put_row row rows i ∙ rw e (h i m)

-- rows put below a number leave all rows below it
below_puts : (named : ℕ) (rows changes : List Row) → LieBelow named rows → All (λ r. r.instance < named) changes → LieBelow named (put_rows rows changes)
below_puts named rows [] h a = h
below_puts named rows (c ∷ cs) h a =
    below_puts named (put_row c rows) cs (below_put named rows c h (All-head (λ (r : Row). r.instance < named) c cs a)) (All-tail (λ (r : Row). r.instance < named) c cs a)

pub instances_puts : (rows changes : List Row) → AreInstances rows → All (λ r. r.instance < 1048576) changes → AreInstances (put_rows rows changes)
instances_puts rows changes h a = below_puts 1048576 rows changes h a

-- what holds of one row holds of a list of it
pub all_one : (P : Row → Type 0) (row : Row) → P row → All P (row ∷ [])
all_one P row h = All-cons P row [] h (λ k d l. absurd (omega (arith, l)))

-- the table after rows were put and what their instances have decided was noted
pub table_absorbed : (es new : List (ℕ × Row)) (changes : List Row) (is : List ℕ) (requests after : List (RequestNo × Unit {0})) (end higher : ℕ) → IsTable es requests end → AreKeyed new → rows_in new ≡ put_rows (rows_in es) changes → is ≡ map (λ (r : Row). r.instance) changes → All (λ r. r.instance < 1048576) changes → KeepsDecisions (rows_in es) (put_rows (rows_in es) changes) → IsNoted (rows_in new) is requests after end higher → IsTable new after higher
table_absorbed es new changes is requests after end higher h keyed rows e all keeps noted =
    let kept : KeepsDecisions (rows_in es) (rows_in new) = rw rows keeps in
    record {
      keyed = keyed;
      ascend = rw rows (ascend_puts (rows_in es) changes h.ascend);
      instances = rw rows (instances_puts (rows_in es) changes h.instances all);
      decided = noted.decided (λ q t. let d = decided_any 0 (rows_in es) q h.ascend (h.decided q t) in any_decided (rows_in new) d.0 d.1 q (kept d.0 d.1 d.2) d.3);
      holds = λ i v d.
          by_touch i (λ t. (noted.held i v t d).0)
          (λ o. noted.grown v.request (h.holds i v (sym (ap (λ x. decision_of (option_map (λ (r : Row). r.standing) x)) (ap (λ z. row_of z i) rows ∙ row_stays (rows_in es) changes i o)) ∙ d)));
      reached = noted.reached (λ p. let v = some_of (decision_at (rows_in es) (end - 1)) (h.reached p) in ap (λ o. is_some o) (kept (end - 1) v.0 v.1));
      above = λ i v d.
          by_touch i (λ t. (noted.held i v t d).1)
          (λ o. let l = h.above i v (sym (ap (λ x. decision_of (option_map (λ (r : Row). r.standing) x)) (ap (λ z. row_of z i) rows ∙ row_stays (rows_in es) changes i o)) ∙ d) in let m = noted.risen in omega arith);
    }
  where
    by_bool : {Z : Type 0} (b : Bool) → (b ≡ true → Z) → (b ≡ false → Z) → Z
    by_bool true f g = f refl
    by_bool false f g = g refl

    by_touch : {Z : Type 0} (i : ℕ) → (list_any (λ j. j == i) is ≡ true → Z) → (list_any (λ j. j == i) (map (λ (r : Row). r.instance) changes) ≡ false → Z) → Z
    by_touch i f g = by_bool (list_any (λ j. j == i) is) f (λ x. g (sym (ap (list_any (λ j. j == i)) e) ∙ x))

-- the request of a decision
pub request_none : (o : Option Command) → option_map (λ (v : Command). v.request) o ≡ None → o ≡ None
request_none None h = refl
request_none (Some v) h = cc

pub request_some : (o : Option Command) (q : RequestNo) → option_map (λ (v : Command). v.request) o ≡ Some q → (v : Command) × (o ≡ Some v) × (v.request ≡ q)
request_some None q h = cc
request_some (Some v) q h = (v, refl, same_Some v.request q h)

pub request_place : (places : List (RequestNo × Option (Unit {0}))) (rows : List Row) (i : ℕ) (o : Option RequestNo) → HavePlaces places rows → option_map (λ (v : Command). v.request) (decision_at rows i) ≡ o → IfSome o (λ q. IsTrue (has_place request_cmp places q))
request_place places rows i None h e = tt
request_place places rows i (Some q) h e =
    let d = request_some (decision_at rows i) q e in
    subst (λ (r : RequestNo). IsTrue (has_place request_cmp places r)) d.2 (h i d.0 d.1)

-- a row that was put has its own decision
pub decision_put : (row : Row) (rows : List Row) → decision_at (put_row row rows) row.instance ≡ decided_command row
decision_put row rows = decision_some (put_row row rows) row.instance row (row_of-put_row row rows row.instance ∙ rw (eq-eqb row.instance row.instance refl))
