-- Of the instances below an open one fewer than eight are undecided, and so a fact of an open instance is one of the lowest.
use Rattle.std.proofs.Common.{◌≡◌, ℕ, ◌+◌, ◌≤◌, ◌<◌, inl, inr, zero, suc, Bool, true, false, ◌==◌, ◌&&◌, ◌||◌, not, ◌-◌, nat_lt, if◌then◌else◌, List, [], ◌∷◌, ◌++◌, length, get_or, Contains, Some, refl, ap, sym, ◌∙◌, subst, arith, eqb-true, eq-eqb, ltb-true, append-nil, append_assoc, le_of_suc-le-suc}
use Rattle.std.specs.List.{list_any}
use Rattle.std.proofs.lemmas.Bool.{false≢true, and_parts, ne_eqb, cases_lt}
use Rattle.rr_types.specs.declared.command.Command.{Command}
use Rattle.rr_types.specs.declared.fact.Fact.{Fact}
use Rattle.rr_types.specs.Facts.{standing_of}
use Rattle.rr_types.specs.Standings.{is_undecided, round_of}
use Rattle.rr_model.specs.Lawful.{count_below}
use Rattle.rr_model.specs.NodeState.{NodeState, Row, row_of, standing_at, is_decided, undecided_from, lowest_undecided, open_instances, is_open}
use Rattle.rr_model.specs.NodeParts.{enter}
use Rattle.rr_model.specs.NodeStep.{catch_up}
use Rattle.rr_model.specs.NodeOpens.{undecided_below, AreOfOpen}
use Rattle.rr_model.proofs.Listed.{counts_no_fewer}
use Rattle.rr_model.proofs.NodeFirsts.{undecided_at_least, enter_row, either}
use Rattle.rr_model.proofs.NodeRows.{stands}

-- whether instance j is undecided by the rows
abbrev pub undecided_by : List Row → ℕ → Bool
undecided_by rows j = is_undecided (stands (row_of rows j))

-- fewer than eight of the instances below i are undecided
abbrev pub IsLowIn : List Row → ℕ → Type 0
IsLowIn rows i = count_below (undecided_by rows) i < 8

abbrev pub IsLow : NodeState → ℕ → Type 0
IsLow s i = IsLowIn s.rows i

-- ---- counts

-- where none is counted between
flat : (f : ℕ → Bool) (i d : ℕ) → ((k : ℕ) → i ≤ k → k < i + d → f k ≡ false) → count_below f (i + d) ≤ count_below f i
flat f i zero none = let e : i + 0 ≡ i = omega arith in subst (λ z. count_below f z ≤ count_below f i) (sym e) (omega arith)
flat f i (suc d) none =
    let e : i + suc d ≡ suc (i + d) = omega arith in
    let ih : count_below f (i + d) ≤ count_below f i = flat f i d (λ k l m. none k l (omega arith)) in
    subst (λ z. count_below f z ≤ count_below f i) (sym e) (subst (λ (b : Bool). (if b then suc (count_below f (i + d)) else count_below f (i + d)) ≤ count_below f i) (sym (none (i + d) (omega arith) (omega arith))) ih)

flat_to : (f : ℕ → Bool) (i u : ℕ) → i ≤ u → ((k : ℕ) → i ≤ k → k < u → f k ≡ false) → count_below f u ≤ count_below f i
flat_to f i u l none = let e : i + (u - i) ≡ u = omega arith in subst (λ z. count_below f z ≤ count_below f i) e (flat f i (u - i) (λ k a b. none k a (omega arith)))

-- one place further at most one more is counted
one_further : (f : ℕ → Bool) (u : ℕ) → count_below f (u + 1) ≤ suc (count_below f u)
one_further f u = let e : u + 1 ≡ suc u = omega arith in subst (λ z. count_below f z ≤ suc (count_below f u)) (sym e) (by (f u))
  where
    by : (b : Bool) → (if b then suc (count_below f u) else count_below f u) ≤ suc (count_below f u)
    by true = omega arith
    by false = omega arith

-- ---- open instances

-- below the lowest undecided instance from i on all are decided
decided_under : (rows : List Row) (i j : ℕ) → i ≤ j → j < undecided_from i rows → undecided_by rows j ≡ false
decided_under [] i j l m = absurd (omega arith)
decided_under (r ∷ rs) i j l m = by (λ k. decided_under rs i j l k) (λ x k. decided_under rs (i + 1) j x k) (nat_lt r.instance i) refl (r.instance == i && is_decided r) refl m
  where
    past : (r.instance ≡ j → ⊥) → undecided_by rs j ≡ false → undecided_by (r ∷ rs) j ≡ false
    past other e = ap (λ (b : Bool). is_undecided (stands (if b then Some r else row_of rs j))) (ne_eqb r.instance j other) ∙ e

    turned : (b : Bool) → not b ≡ true → b ≡ false
    turned true e = sym e
    turned false e = refl

    here : r.instance ≡ j → is_decided r ≡ true → undecided_by (r ∷ rs) j ≡ false
    here same d = ap (λ (b : Bool). is_undecided (stands (if b then Some r else row_of rs j))) (eq-eqb r.instance j same) ∙ turned (is_undecided (Some r.standing)) d

    by : (j < undecided_from i rs → undecided_by rs j ≡ false) → (i + 1 ≤ j → j < undecided_from (i + 1) rs → undecided_by rs j ≡ false) → (a : Bool) → nat_lt r.instance i ≡ a → (b : Bool) → (r.instance == i && is_decided r) ≡ b → j < (if a then undecided_from i rs else (if b then undecided_from (i + 1) rs else i)) → undecided_by (r ∷ rs) j ≡ false
    by ih next true e b f k = let x : r.instance < i = ltb-true _ _ e in past (λ y. omega arith) (ih k)
    by ih next false e true f k =
        let parts : ((r.instance == i) ≡ true) × (is_decided r ≡ true) = and_parts _ _ f in
        let at : r.instance ≡ i = eqb-true _ _ parts.0 in
        elim (cases_lt i j) [
          | inl x ↦ past (λ y. omega arith) (next (omega arith) k)
          | inr x ↦ here (omega arith) parts.1
        ]
    by ih next false e false f k = absurd (omega arith)

-- below one of the count lowest undecided instances from i on there are fewer than count more than below i
low_among : (count i j : ℕ) (rows : List Row) → Contains (lowest_undecided count i rows) j → count_below (undecided_by rows) j < count_below (undecided_by rows) i + count
low_among zero i j rows c = let l : c.0 < 0 = c.1 in absurd (omega arith)
low_among (suc count) i j rows c = by (λ d. low_among count (undecided_from i rows + 1) j rows d) (nat_lt (undecided_from i rows) 1048576) c
  where
    up_to : count_below (undecided_by rows) (undecided_from i rows) ≤ count_below (undecided_by rows) i
    up_to = flat_to (undecided_by rows) i (undecided_from i rows) (undecided_at_least i rows) (λ k a b. decided_under rows i k a b)

    in_list : (Contains (lowest_undecided count (undecided_from i rows + 1) rows) j → count_below (undecided_by rows) j < count_below (undecided_by rows) (undecided_from i rows + 1) + count) → (k : ℕ) → k < length (undecided_from i rows ∷ lowest_undecided count (undecided_from i rows + 1) rows) → get_or (undecided_from i rows ∷ lowest_undecided count (undecided_from i rows + 1) rows) k j ≡ j → count_below (undecided_by rows) j < count_below (undecided_by rows) i + suc count
    in_list ih zero l e = subst (λ z. count_below (undecided_by rows) z < count_below (undecided_by rows) i + suc count) e (let x : count_below (undecided_by rows) (undecided_from i rows) ≤ count_below (undecided_by rows) i = up_to in omega arith)
    in_list ih (suc k) l e =
        let z : count_below (undecided_by rows) j < count_below (undecided_by rows) (undecided_from i rows + 1) + count = ih (k, le_of_suc-le-suc l, e) in
        let x : count_below (undecided_by rows) (undecided_from i rows + 1) ≤ suc (count_below (undecided_by rows) (undecided_from i rows)) = one_further (undecided_by rows) (undecided_from i rows) in
        let y : count_below (undecided_by rows) (undecided_from i rows) ≤ count_below (undecided_by rows) i = up_to in
        omega arith

    by : (Contains (lowest_undecided count (undecided_from i rows + 1) rows) j → count_below (undecided_by rows) j < count_below (undecided_by rows) (undecided_from i rows + 1) + count) → (b : Bool) → Contains (if b then undecided_from i rows ∷ lowest_undecided count (undecided_from i rows + 1) rows else []) j → count_below (undecided_by rows) j < count_below (undecided_by rows) i + suc count
    by ih true d = in_list ih d.0 d.1 d.2
    by ih false d = let l : d.0 < 0 = d.1 in absurd (omega arith)

-- an open instance is low
pub open_low : (s : NodeState) (i : ℕ) → Contains (open_instances s) i → IsLow s i
unfolding open_instances
open_low s i c = low_among 8 0 i s.rows c

any_is : (xs : List ℕ) (i : ℕ) → list_any (λ j. j == i) xs ≡ true → Contains xs i
any_is [] i e = absurd (false≢true e)
any_is (x ∷ xs) i e = by (any_is xs i) (x == i) refl e
  where
    by : (list_any (λ j. j == i) xs ≡ true → Contains xs i) → (b : Bool) → (x == i) ≡ b → (b || list_any (λ j. j == i) xs) ≡ true → Contains (x ∷ xs) i
    by ih true f g = (0, omega arith, eqb-true x i f)
    by ih false f g = let r : Contains xs i = ih g in (suc r.0, (let l : r.0 < length xs = r.1 in omega arith), r.2)

pub is_open_low : (s : NodeState) (i : ℕ) → is_open s i ≡ true → IsLow s i
is_open_low s i e = open_low s i (any_is (open_instances s) i e)

-- ---- from one state to another

-- where the same instances below it are undecided, an instance is low still
pub low_still : (s t : NodeState) (i : ℕ) → ((j : ℕ) → j < i → standing_at t j ≡ standing_at s j) → IsLow s i → IsLow t i
low_still s t i same l = let x : count_below (undecided_by t.rows) i ≤ count_below (undecided_by s.rows) i = counts_no_fewer (undecided_by t.rows) (undecided_by s.rows) i (λ j m e. sym (ap is_undecided (same j m)) ∙ e) in omega arith

pub catch_up_low : (i r : ℕ) (v : Command) (s : NodeState) → IsLow s i → IsLow (catch_up i r v s) i
catch_up_low i r v s l = low_still s (catch_up i r v s) i (λ j m. either (λ z. standing_at z j ≡ standing_at s j) (enter i r (Some v) s) s (nat_lt (round_of (standing_at s i)) r) (ap stands (enter_row j i r (Some v) s m)) refl) l

-- ---- facts

-- by facts that leave instances where the rows have them
pub low_by_facts : (s : NodeState) (facts : List Fact) (i : ℕ) → ((j : ℕ) → standing_at s j ≡ standing_of j facts) → IsLow s i → undecided_below i facts < 8
low_by_facts s facts i same l = let x : undecided_below i facts ≤ count_below (undecided_by s.rows) i = counts_no_fewer (λ j. is_undecided (standing_of j facts)) (undecided_by s.rows) i (λ j m e. ap is_undecided (same j) ∙ e) in omega arith

-- facts of open instances, and then others behind them
pub low_both : (before xs ys : List Fact) → AreOfOpen before xs → AreOfOpen (before ++ xs) ys → AreOfOpen before (xs ++ ys)
low_both before [] ys a b = subst (λ z. AreOfOpen z ys) (append-nil before) b
low_both before (x ∷ xs) ys a b = (a.0, low_both (before ++ x ∷ []) xs ys a.1 (subst (λ z. AreOfOpen z ys) (sym (append_assoc before (x ∷ []) xs)) b))

pub low_front : (before xs ys : List Fact) → AreOfOpen before (xs ++ ys) → AreOfOpen before xs
low_front before [] ys a = tt
low_front before (x ∷ xs) ys a = (a.0, low_front (before ++ x ∷ []) xs ys a.1)
