-- A node whose lowest undecided instance is i: what it does for other instances leaves that row alone.
use Rattle.std.proofs.Common.{◌≡◌, ℕ, ◌+◌, ◌≤◌, ◌<◌, inl, inr, zero, suc, Bool, true, false, ◌==◌, ◌&&◌, not, nat_lt, is_some, if◌then◌else◌, List, [], ◌∷◌, ◌++◌, length, length-append, Contains, le_refl, Option, None, Some, option_map, refl, ap, sym, ◌∙◌, subst, arith, eq-eqb, ltb-true}
use Rattle.std.specs.Option.{option_map_or}
use Rattle.std.proofs.lemmas.Bool.{lt-ltb, ne_eqb, cases_lt}
use Rattle.std.proofs.lemmas.Option.{none-some, same_Some}
use Rattle.std.proofs.lemmas.List.Elements.{Contains-append_left}
use Rattle.rr_types.specs.declared.command.Command.{Command}
use Rattle.rr_types.specs.declared.fact.Fact.{Fact}
use Rattle.rr_types.specs.declared.fact.Fact.TheVariants.{Enter, Propose, Decide}
use Rattle.rr_types.specs.declared.message.Body.{Body}
use Rattle.rr_types.specs.declared.promise.Standing.{Standing}
use Rattle.rr_types.specs.declared.promise.Standing.TheVariants.{Decided, Open}
use Rattle.rr_types.specs.Rounds.{Estimated, coordinator_of}
use Rattle.rr_types.specs.Facts.{instance_of, after_fact}
use Rattle.rr_types.specs.Nodes.{has_member, joined}
use Rattle.rr_types.specs.Standings.{is_undecided}
use Rattle.rr_model.specs.NodeState.{NodeState, Row, Tally, Backing, Owed, row_of, put_row, is_decided, undecided_from, lowest_undecided, open_instances, next_number}
use Rattle.rr_model.specs.NodeParts.{owe, messages_to, stage, free_command, rows_after, row_after, fresh_row, tally_after, backing_after, leave_round, enter_with, entering_estimate, enter, conclude, propose}
use Rattle.rr_model.specs.NodeDue.{Due, Begin, Offer, Conclude, MoveOn, pick, is_majority, due_of_coordinator, due_of_row, due_at, first_due, due, carry_out, settle_within, settle}
use Rattle.rr_model.proofs.NodeRows.{row_of_instance, stands, row_then, row_of-rows_after}

-- a row
abbrev pub row_for : ℕ → Standing → Backing → Tally → Row
row_for i st b t = record { instance = i; standing = st; backing = b; tally = t }

-- the rows decide each instance from the bound up to i
abbrev pub AreDecidedUpTo : ℕ → ℕ → List Row → Type 0
AreDecidedUpTo low i [] = low ≡ i
AreDecidedUpTo low i (d ∷ ds) = (d.instance ≡ low) × (is_decided d ≡ true) × AreDecidedUpTo (low + 1) i ds

-- each instance below i is decided in these rows, and i has this row
pub record First (i : ℕ) (st : Standing) (t : Tally) (rows : List Row) : Type 0 where
  pub before : List Row
  pub after : List Row
  pub backing : Backing
  pub below : AreDecidedUpTo 0 i before
  pub is : rows ≡ before ++ row_for i st backing t ∷ after

up_to : (low i : ℕ) (ds : List Row) → AreDecidedUpTo low i ds → low ≤ i
up_to low i [] a = omega arith
up_to low i (d ∷ ds) a = let x : low + 1 ≤ i = up_to (low + 1) i ds a.2 in omega arith

not_below : (a b : ℕ) → b ≤ a → nat_lt a b ≡ false
not_below a b l = by (nat_lt a b) refl
  where
    by : (t : Bool) → nat_lt a b ≡ t → t ≡ false
    by true e = let x : a < b = ltb-true a b e in absurd (omega arith)
    by false e = refl

-- the row of i
row_among : (low i : ℕ) (ds : List Row) (r : Row) (rest : List Row) → AreDecidedUpTo low i ds → r.instance ≡ i → row_of (ds ++ r ∷ rest) i ≡ Some r
row_among low i [] r rest a e = ap (λ t. if t then Some r else row_of rest i) (eq-eqb r.instance i e)
row_among low i (d ∷ ds) r rest a e =
    let l : low + 1 ≤ i = up_to (low + 1) i ds a.2 in
    let x : d.instance ≡ low = a.0 in
    ap (λ t. if t then Some d else row_of (ds ++ r ∷ rest) i) (ne_eqb d.instance i (λ y. omega arith)) ∙ row_among (low + 1) i ds r rest a.2 e

-- the lowest undecided instance is none of those before i
undecided_beyond : (low i : ℕ) (ds rest : List Row) → AreDecidedUpTo low i ds → undecided_from low (ds ++ rest) ≡ undecided_from i rest
undecided_beyond low i [] rest a = ap (λ z. undecided_from z rest) a
undecided_beyond low i (d ∷ ds) rest a =
    let x : d.instance ≡ low = a.0 in
    ap (λ t. if t then undecided_from low (ds ++ rest) else (if d.instance == low && is_decided d then undecided_from (low + 1) (ds ++ rest) else low)) (not_below d.instance low (omega arith))
    ∙ ap (λ t. if t && is_decided d then undecided_from (low + 1) (ds ++ rest) else low) (eq-eqb d.instance low x)
    ∙ ap (λ t. if t then undecided_from (low + 1) (ds ++ rest) else low) a.1
    ∙ undecided_beyond (low + 1) i ds rest a.2

-- another row put for i
put_here : (low i : ℕ) (ds : List Row) (r s : Row) (rest : List Row) → AreDecidedUpTo low i ds → r.instance ≡ i → s.instance ≡ i → put_row s (ds ++ r ∷ rest) ≡ ds ++ s ∷ rest
put_here low i [] r s rest a e f =
    ap (λ t. if t then s ∷ r ∷ rest else (if s.instance == r.instance then s ∷ rest else r ∷ put_row s rest)) (not_below s.instance r.instance (omega arith))
    ∙ ap (λ t. if t then s ∷ rest else r ∷ put_row s rest) (eq-eqb s.instance r.instance (f ∙ sym e))
put_here low i (d ∷ ds) r s rest a e f =
    let l : low + 1 ≤ i = up_to (low + 1) i ds a.2 in
    let x : d.instance ≡ low = a.0 in
    ap (λ t. if t then s ∷ d ∷ (ds ++ r ∷ rest) else (if s.instance == d.instance then s ∷ (ds ++ r ∷ rest) else d ∷ put_row s (ds ++ r ∷ rest))) (not_below s.instance d.instance (omega arith))
    ∙ ap (λ t. if t then s ∷ (ds ++ r ∷ rest) else d ∷ put_row s (ds ++ r ∷ rest)) (ne_eqb s.instance d.instance (λ y. omega arith))
    ∙ ap (λ z. d ∷ z) (put_here (low + 1) i ds r s rest a.2 e f)

-- a row put for a later instance
put_later : (low i : ℕ) (ds : List Row) (r s : Row) (rest : List Row) → AreDecidedUpTo low i ds → r.instance ≡ i → i < s.instance → put_row s (ds ++ r ∷ rest) ≡ ds ++ r ∷ put_row s rest
put_later low i [] r s rest a e f =
    ap (λ t. if t then s ∷ r ∷ rest else (if s.instance == r.instance then s ∷ rest else r ∷ put_row s rest)) (not_below s.instance r.instance (omega arith))
    ∙ ap (λ t. if t then s ∷ rest else r ∷ put_row s rest) (ne_eqb s.instance r.instance (λ y. omega arith))
put_later low i (d ∷ ds) r s rest a e f =
    let l : low + 1 ≤ i = up_to (low + 1) i ds a.2 in
    let x : d.instance ≡ low = a.0 in
    ap (λ t. if t then s ∷ d ∷ (ds ++ r ∷ rest) else (if s.instance == d.instance then s ∷ (ds ++ r ∷ rest) else d ∷ put_row s (ds ++ r ∷ rest))) (not_below s.instance d.instance (omega arith))
    ∙ ap (λ t. if t then s ∷ (ds ++ r ∷ rest) else d ∷ put_row s (ds ++ r ∷ rest)) (ne_eqb s.instance d.instance (λ y. omega arith))
    ∙ ap (λ z. d ∷ z) (put_later (low + 1) i ds r s rest a.2 e f)

-- the first of these rows, if there is one, is of an instance above i
abbrev pub IsBeyond : ℕ → List Row → Type 0
IsBeyond i [] = Unit {0}
IsBeyond i (r ∷ rs) = i < r.instance

-- a row put for i where there was none
pub put_between : (low i : ℕ) (ds : List Row) (s : Row) (rest : List Row) → AreDecidedUpTo low i ds → s.instance ≡ i → IsBeyond i rest → put_row s (ds ++ rest) ≡ ds ++ s ∷ rest
put_between low i [] s [] a f b = refl
put_between low i [] s (r ∷ rest) a f b = ap (λ t. if t then s ∷ r ∷ rest else (if s.instance == r.instance then s ∷ rest else r ∷ put_row s rest)) (lt-ltb s.instance r.instance (omega arith))
put_between low i (d ∷ ds) s rest a f b =
    let l : low + 1 ≤ i = up_to (low + 1) i ds a.2 in
    let x : d.instance ≡ low = a.0 in
    ap (λ t. if t then s ∷ d ∷ (ds ++ rest) else (if s.instance == d.instance then s ∷ (ds ++ rest) else d ∷ put_row s (ds ++ rest))) (not_below s.instance d.instance (omega arith))
    ∙ ap (λ t. if t then s ∷ (ds ++ rest) else d ∷ put_row s (ds ++ rest)) (ne_eqb s.instance d.instance (λ y. omega arith))
    ∙ ap (λ z. d ∷ z) (put_between (low + 1) i ds s rest a.2 f b)

-- i is the lowest undecided instance where there is no row for it
pub undecided_between : (i : ℕ) (ds rest : List Row) → AreDecidedUpTo 0 i ds → IsBeyond i rest → undecided_from 0 (ds ++ rest) ≡ i
undecided_between i ds rest a b = undecided_beyond 0 i ds rest a ∙ by rest b
  where
    by : (xs : List Row) → IsBeyond i xs → undecided_from i xs ≡ i
    by [] x = refl
    by (r ∷ rs) x =
        ap (λ t. if t then undecided_from i rs else (if r.instance == i && is_decided r then undecided_from (i + 1) rs else i)) (not_below r.instance i (omega arith))
        ∙ ap (λ t. if t && is_decided r then undecided_from (i + 1) rs else i) (ne_eqb r.instance i (λ y. omega arith))

-- each instance below i is decided there
pub decided_among : (low i : ℕ) (ds rest : List Row) → AreDecidedUpTo low i ds → (j : ℕ) → low ≤ j → j < i → is_undecided (option_map (λ (r : Row). r.standing) (row_of (ds ++ rest) j)) ≡ false
decided_among low i [] rest a j l m = let x : low ≡ i = a in absurd (omega arith)
decided_among low i (d ∷ ds) rest a j l m = elim (cases_lt low j) [
  | inl z ↦ (let x : d.instance ≡ low = a.0 in ap (λ t. is_undecided (option_map (λ (r : Row). r.standing) (if t then Some d else row_of (ds ++ rest) j))) (ne_eqb d.instance j (λ y. omega arith)) ∙ decided_among (low + 1) i ds rest a.2 j (omega arith) m)
  | inr z ↦ (let x : d.instance ≡ low = a.0 in let e : d.instance ≡ j = omega arith in ap (λ t. is_undecided (option_map (λ (r : Row). r.standing) (if t then Some d else row_of (ds ++ rest) j))) (eq-eqb d.instance j e) ∙ turned (is_undecided (Some d.standing)) a.1)
]
  where
    turned : (b : Bool) → not b ≡ true → b ≡ false
    turned true e = sym e
    turned false e = refl

pub undecided_at_least : (k : ℕ) (rows : List Row) → k ≤ undecided_from k rows
undecided_at_least k [] = omega arith
undecided_at_least k (r ∷ rows) = by (nat_lt r.instance k) (r.instance == k && is_decided r) (undecided_at_least k rows) (undecided_at_least (k + 1) rows)
  where
    by : (a b : Bool) → k ≤ undecided_from k rows → k + 1 ≤ undecided_from (k + 1) rows → k ≤ (if a then undecided_from k rows else (if b then undecided_from (k + 1) rows else k))
    by true b x y = x
    by false true x y = omega arith
    by false false x y = omega arith

module _ (i : ℕ) (st : Standing) (t : Tally) (rows : List Row) (F : First i st t rows) where
  pub first_row : row_of rows i ≡ Some (row_for i st F.backing t)
  first_row = ap (λ z. row_of z i) F.is ∙ row_among 0 i F.before (row_for i st F.backing t) F.after F.below refl

  pub first_put : (s : Standing) (b : Backing) (u : Tally) → First i s u (put_row (row_for i s b u) rows)
  first_put s b u = record { before = F.before; after = F.after; backing = b; below = F.below; is = ap (put_row (row_for i s b u)) F.is ∙ put_here 0 i F.before (row_for i st F.backing t) (row_for i s b u) F.after F.below refl refl }

  pub first_later : (s : Row) → i < s.instance → First i st t (put_row s rows)
  first_later s l = record { before = F.before; after = put_row s F.after; backing = F.backing; below = F.below; is = ap (put_row s) F.is ∙ put_later 0 i F.before (row_for i st F.backing t) s F.after F.below refl l }

  first_beyond : i ≤ undecided_from 0 rows
  first_beyond = subst (λ z. i ≤ z) (sym (ap (undecided_from 0) F.is ∙ undecided_beyond 0 i F.before (row_for i st F.backing t ∷ F.after) F.below)) (undecided_at_least i (row_for i st F.backing t ∷ F.after))

  pub first_undecided_is : is_undecided (Some st) ≡ true → undecided_from 0 rows ≡ i
  first_undecided_is u =
      ap (undecided_from 0) F.is ∙ undecided_beyond 0 i F.before (row_for i st F.backing t ∷ F.after) F.below
      ∙ ap (λ z. if z then undecided_from i F.after else (if i == i && is_decided (row_for i st F.backing t) then undecided_from (i + 1) F.after else i)) (not_below i i (omega arith))
      ∙ ap (λ z. if z && is_decided (row_for i st F.backing t) then undecided_from (i + 1) F.after else i) (eq-eqb i i refl)
      ∙ rw u

-- a fact of a later instance
pub rows_later : (i : ℕ) (st : Standing) (t : Tally) (k : ℕ) (f : Fact) (rows : List Row) → First i st t rows → i < instance_of f → (o : Option Row) → row_of rows (instance_of f) ≡ o → (s : Option Standing) → after_fact (option_map (λ (r : Row). r.standing) (row_of rows (instance_of f))) f ≡ s → First i st t (rows_after k f rows)
rows_later i st t k f rows F l o a None b = rw b F
rows_later i st t k f rows F l None a (Some s) b = rw (b, a) (first_later i st t rows F (row_after k f s (fresh_row (instance_of f) s)) l)
rows_later i st t k f rows F l (Some r) a (Some s) b = rw (b, a) (first_later i st t rows F (row_after k f s r) (subst (λ z. i < z) (sym (row_of_instance rows (instance_of f) r a)) l))

-- a fact of this one
pub rows_here : (st : Standing) (t : Tally) (k : ℕ) (f : Fact) (rows : List Row) (s : Standing) → First (instance_of f) st t rows → after_fact (Some st) f ≡ Some s → First (instance_of f) s (tally_after f t) (rows_after k f rows)
rows_here st t k f rows s F a =
    let r : Row = row_for (instance_of f) st F.backing t in
    let e : row_of rows (instance_of f) ≡ Some r = first_row (instance_of f) st t rows F in
    let b : after_fact (option_map (λ (z : Row). z.standing) (row_of rows (instance_of f))) f ≡ Some s = ap (λ z. after_fact (option_map (λ (r : Row). r.standing) z) f) e ∙ a in
    rw (b, e) (first_put (instance_of f) st t rows F s (backing_after k f F.backing) (tally_after f t))

-- a node stays who it is, suspects the same, owes what it owed, has as many facts or more, and the same requests wait
pub record Onward (s t : NodeState) : Type 0 where
  pub nodes : t.nodes ≡ s.nodes
  pub node : t.node ≡ s.node
  pub suspects : t.suspects ≡ s.suspects
  pub waiting : t.waiting ≡ s.waiting
  pub owed : (o : Owed) → Contains s.owed o → Contains t.owed o
  pub number : next_number s ≤ next_number t

pub onward_not : (s : NodeState) → Onward s s
onward_not s = record { nodes = refl; node = refl; suspects = refl; waiting = refl; owed = λ o c. c; number = le_refl (next_number s) }

pub onward_on : (s t u : NodeState) → Onward s t → Onward t u → Onward s u
onward_on s t u a b = record {
  nodes = b.nodes ∙ a.nodes;
  node = b.node ∙ a.node;
  suspects = b.suspects ∙ a.suspects;
  waiting = b.waiting ∙ a.waiting;
  owed = λ o c. b.owed o (a.owed o c);
  number = let x : next_number s ≤ next_number t = a.number in let y : next_number t ≤ next_number u = b.number in omega arith;
}

pub owe_onward : (b : Body) (k : Option ℕ) (to : List ℕ) (s : NodeState) → Onward s (owe b k to s)
unfolding owe
owe_onward b k to s = record { nodes = refl; node = refl; suspects = refl; waiting = refl; owed = λ o c. Contains-append_left s.owed (messages_to s.node b k to) o c; number = le_refl (next_number s) }

pub owe_rows : (b : Body) (k : Option ℕ) (to : List ℕ) (s : NodeState) → (owe b k to s).rows ≡ s.rows
unfolding owe
owe_rows b k to s = refl

pub owe_pool : (b : Body) (k : Option ℕ) (to : List ℕ) (s : NodeState) → (owe b k to s).pool ≡ s.pool
unfolding owe
owe_pool b k to s = refl

-- a staged fact has the next number
pub stage_number : (f : Fact) (s : NodeState) → next_number (stage f s) ≡ next_number s + 1
unfolding stage
stage_number f s = let l : length (s.staged ++ f ∷ []) ≡ length s.staged + 1 = length-append s.staged (f ∷ []) in omega arith

pub stage_onward : (f : Fact) (s : NodeState) → Onward s (stage f s)
unfolding stage
stage_onward f s = record { nodes = refl; node = refl; suspects = refl; waiting = refl; owed = λ o c. c; number = (let l : next_number (stage f s) ≡ next_number s + 1 = stage_number f s in omega arith) }

pub either : (P : NodeState → Type 0) (s t : NodeState) (b : Bool) → P s → P t → P (if b then s else t)
either P s t true x y = x
either P s t false x y = y

pub leave_onward : (i : ℕ) (s : NodeState) → Onward s (leave_round i s)
leave_onward i s = either (Onward s) _ s _ (owe_onward _ _ _ s) (onward_not s)

pub leave_rows : (i : ℕ) (s : NodeState) → (leave_round i s).rows ≡ s.rows
leave_rows i s = either (λ z. z.rows ≡ s.rows) _ s _ (owe_rows _ _ _ s) refl

-- the fact is staged, and something owed
pub stage_owe_onward : (f : Fact) (b : Body) (k : Option ℕ) (to : List ℕ) (s : NodeState) → Onward s (owe b k to (stage f s))
stage_owe_onward f b k to s = onward_on s (stage f s) _ (stage_onward f s) (owe_onward b k to (stage f s))

enter_with_onward : (i : ℕ) (e : Estimated) (s : NodeState) → Onward s (enter_with i e (leave_round i s))
enter_with_onward i e s = onward_on s (leave_round i s) _ (leave_onward i s) (stage_owe_onward _ _ _ _ (leave_round i s))

pub enter_onward : (i r : ℕ) (said : Option Command) (s : NodeState) → Onward s (enter i r said s)
unfolding enter
enter_onward i r said s = by (entering_estimate i r said s)
  where
    by : (o : Option Estimated) → Onward s (option_map_or (λ e. enter_with i e (leave_round i s)) o s)
    by None = onward_not s
    by (Some e) = enter_with_onward i e s

pub carry_onward : (d : Due) (s : NodeState) → Onward s (carry_out d s)
unfolding carry_out propose conclude
carry_onward (Begin i) s = enter_onward i 1 None s
carry_onward (Offer i r v) s = stage_owe_onward _ _ _ _ s
carry_onward (Conclude i v) s = stage_owe_onward _ _ _ _ s
carry_onward (MoveOn i) s = enter_onward i _ None s

pub stage_rows : (f : Fact) (s : NodeState) → (stage f s).rows ≡ rows_after (next_number s) f s.rows
unfolding stage
stage_rows f s = refl

pub stage_first : (i : ℕ) (st : Standing) (t : Tally) (f : Fact) (s : NodeState) → First i st t s.rows → i < instance_of f → First i st t (stage f s).rows
stage_first i st t f s F l = subst (First i st t) (sym (stage_rows f s)) (rows_later i st t (next_number s) f s.rows F l _ refl _ refl)

pub stage_here : (st : Standing) (t : Tally) (f : Fact) (s : NodeState) (u : Standing) → First (instance_of f) st t s.rows → after_fact (Some st) f ≡ Some u → First (instance_of f) u (tally_after f t) (stage f s).rows
stage_here st t f s u F a = subst (First (instance_of f) u (tally_after f t)) (sym (stage_rows f s)) (rows_here st t (next_number s) f s.rows u F a)

stage_owe_first : (i : ℕ) (st : Standing) (t : Tally) (f : Fact) (b : Body) (k : Option ℕ) (to : List ℕ) (s : NodeState) → First i st t s.rows → i < instance_of f → First i st t (owe b k to (stage f s)).rows
stage_owe_first i st t f b k to s F l = subst (First i st t) (sym (owe_rows b k to (stage f s))) (stage_first i st t f s F l)

enter_first : (i : ℕ) (st : Standing) (t : Tally) (j r : ℕ) (said : Option Command) (s : NodeState) → First i st t s.rows → i < j → First i st t (enter j r said s).rows
unfolding enter
enter_first i st t j r said s F l = by (entering_estimate j r said s)
  where
    by : (o : Option Estimated) → First i st t (option_map_or (λ e. enter_with j e (leave_round j s)) o s).rows
    by None = F
    by (Some e) = stage_owe_first i st t (Enter j e) _ _ _ (leave_round j s) (subst (First i st t) (sym (leave_rows j s)) F) l

-- the instance of what is due
abbrev pub place_of : Due → ℕ
place_of (Begin i) = i
place_of (Offer i r v) = i
place_of (Conclude i v) = i
place_of (MoveOn i) = i

carry_first : (i : ℕ) (st : Standing) (t : Tally) (d : Due) (s : NodeState) → First i st t s.rows → i < place_of d → First i st t (carry_out d s).rows
unfolding carry_out propose conclude
carry_first i st t (Begin j) s F l = enter_first i st t j 1 None s F l
carry_first i st t (Offer j r v) s F l = stage_owe_first i st t (Propose j r v) _ _ _ s F l
carry_first i st t (Conclude j v) s F l = stage_owe_first i st t (Decide j v) _ _ _ s F l
carry_first i st t (MoveOn j) s F l = enter_first i st t j _ None s F l

coordinator_place : (s : NodeState) (i : ℕ) (tally : Tally) (r : ℕ) (v : Option Command) (d : Due) → due_of_coordinator s i tally r v ≡ Some d → place_of d ≡ i
coordinator_place s i tally r None d x = by (pick s.nodes tally) x
  where
    by : (k : Option Command) → option_map (λ v. Offer i r v) k ≡ Some d → place_of d ≡ i
    by None y = absurd (none-some d y)
    by (Some v) y = ap place_of (sym (same_Some _ d y))
coordinator_place s i tally r (Some v) d x = by (is_majority s tally.acks) (is_majority s (joined tally.acks tally.nacks) && nat_lt r 2147483647) x
  where
    by : (b a : Bool) → (if b then Some (Conclude i v) else (if a then Some (MoveOn i) else None)) ≡ Some d → place_of d ≡ i
    by true a y = ap place_of (sym (same_Some _ d y))
    by false true y = ap place_of (sym (same_Some _ d y))
    by false false y = absurd (none-some d y)

row_place : (s : NodeState) (i : ℕ) (tally : Tally) (t : Standing) (d : Due) → due_of_row s i tally t ≡ Some d → place_of d ≡ i
row_place s i tally (Decided v) d x = absurd (none-some d x)
row_place s i tally (Open o) d x = by (coordinator_of o.round s.nodes == s.node) (has_member s.suspects (coordinator_of o.round s.nodes) && nat_lt o.round 2147483647) x
  where
    by : (b c : Bool) → (if b then due_of_coordinator s i tally o.round o.proposal else (if c then Some (MoveOn i) else None)) ≡ Some d → place_of d ≡ i
    by true c y = coordinator_place s i tally o.round o.proposal d y
    by false true y = ap place_of (sym (same_Some _ d y))
    by false false y = absurd (none-some d y)

pub at_place : (s : NodeState) (i : ℕ) (d : Due) (o : Option Row) → row_of s.rows i ≡ o → due_at s i ≡ Some d → place_of d ≡ i
at_place s i d None e x = by (is_some (free_command s i)) (rw e at x)
  where
    by : (b : Bool) → (if b then Some (Begin i) else None) ≡ Some d → place_of d ≡ i
    by true y = ap place_of (sym (same_Some _ d y))
    by false y = absurd (none-some d y)
at_place s i d (Some row) e x = row_place s i row.tally row.standing d (rw e at x)

AllFrom : ℕ → List ℕ → Type 0
AllFrom i [] = Unit {0}
AllFrom i (j ∷ js) = (i ≤ j) × AllFrom i js

lowest_from : (count i k : ℕ) (rows : List Row) → i ≤ undecided_from k rows → AllFrom i (lowest_undecided count k rows)
unfolding AllFrom
lowest_from zero i k rows l = tt
lowest_from (suc count) i k rows l = by (nat_lt (undecided_from k rows) 1048576) (lowest_from count i (undecided_from k rows + 1) rows (let x : undecided_from k rows + 1 ≤ undecided_from (undecided_from k rows + 1) rows = undecided_at_least _ rows in omega arith))
  where
    by : (b : Bool) → AllFrom i (lowest_undecided count (undecided_from k rows + 1) rows) → AllFrom i (if b then undecided_from k rows ∷ lowest_undecided count (undecided_from k rows + 1) rows else [])
    by true rest = (l, rest)
    by false rest = tt

-- nothing is due for i, so what is due is for a later instance
due_later : (s : NodeState) (i : ℕ) (is : List ℕ) (d : Due) → AllFrom i is → due_at s i ≡ None → first_due s is ≡ Some d → i < place_of d
unfolding AllFrom
due_later s i [] d a q x = absurd (none-some d x)
due_later s i (j ∷ js) d a q x = by (due_later s i js d a.1 q) (due_at s j) refl x
  where
    by : (first_due s js ≡ Some d → i < place_of d) → (o : Option Due) → due_at s j ≡ o → option_map_or Some o (first_due s js) ≡ Some d → i < place_of d
    by ih None e y = ih y
    by ih (Some c) e y = elim (cases_lt i j) [
      | inl l ↦ subst (λ z. i < z) (sym (at_place s j d (row_of s.rows j) refl (e ∙ y))) l
      | inr l ↦ (let same : j ≡ i = (let m : i ≤ j = a.0 in omega arith) in absurd (none-some c (sym q ∙ ap (due_at s) (sym same) ∙ e)))
    ]

-- what is due for a row
pub row_due_at : (i : ℕ) (st : Standing) (t : Tally) (s : NodeState) → First i st t s.rows → due_at s i ≡ due_of_row s i t st
row_due_at i st t s F = let e : row_of s.rows i ≡ Some (row_for i st F.backing t) = first_row i st t s.rows F in rw e refl

-- it is the same at nodes alike
pub due_alike : (i : ℕ) (st : Standing) (t : Tally) (s u : NodeState) → u.nodes ≡ s.nodes → u.node ≡ s.node → u.suspects ≡ s.suspects → due_of_row u i t st ≡ due_of_row s i t st
due_alike i st t s u a b c = rw (a, b, c) refl

-- the node has this row for i, nothing is due for it, and the rest is as it was
pub record IsStill (i : ℕ) (st : Standing) (t : Tally) (s u : NodeState) : Type 0 where
  pub row : First i st t u.rows
  pub still : due_of_row u i t st ≡ None
  pub onward : Onward s u

pub still_goes : (i : ℕ) (st : Standing) (t : Tally) (s u : NodeState) (d : Due) → due u ≡ Some d → IsStill i st t s u → IsStill i st t s (carry_out d u)
unfolding due open_instances
still_goes i st t s u d x S =
    let later : i < place_of d = due_later u i (open_instances u) d (lowest_from 8 i 0 u.rows (first_beyond i st t u.rows S.row)) (row_due_at i st t u S.row ∙ S.still) x in
    let on : Onward u (carry_out d u) = carry_onward d u in
    record { row = carry_first i st t d u S.row later; still = due_alike i st t u (carry_out d u) on.nodes on.node on.suspects ∙ S.still; onward = onward_on s u (carry_out d u) S.onward on }

-- what each due thing keeps, settling keeps
within_keeps : (P : NodeState → Type 0) → ((u : NodeState) (d : Due) → due u ≡ Some d → P u → P (carry_out d u)) → (turns : ℕ) (s : NodeState) → P s → P (settle_within turns s)
unfolding settle_within
within_keeps P k zero s x = x
within_keeps P k (suc turns) s x = by (λ d e. within_keeps P k turns (carry_out d s) (k s d e x)) (due s) refl
  where
    by : ((d : Due) → due s ≡ Some d → P (settle_within turns (carry_out d s))) → (o : Option Due) → due s ≡ o → P (option_map_or (λ d. settle_within turns (carry_out d s)) o s)
    by rest None e = x
    by rest (Some d) e = rest d e

pub settle_keeps : (P : NodeState → Type 0) → ((u : NodeState) (d : Due) → due u ≡ Some d → P u → P (carry_out d u)) → (s : NodeState) → P s → P (settle s)
unfolding settle
settle_keeps P k s x = within_keeps P k _ s x

pub settle_onward : (s : NodeState) → Onward s (settle s)
settle_onward s = settle_keeps (Onward s) (λ u d e x. onward_on s u (carry_out d u) x (carry_onward d u)) s (onward_not s)

-- where nothing is due for i, settling leaves its row alone
pub settle_still : (i : ℕ) (st : Standing) (t : Tally) (s : NodeState) → First i st t s.rows → due_of_row s i t st ≡ None → First i st t (settle s).rows
settle_still i st t s F q = (settle_keeps (IsStill i st t s) (still_goes i st t s) s (record { row = F; still = q; onward = onward_not s })).row

stage_row : (i : ℕ) (f : Fact) (b : Body) (k : Option ℕ) (to : List ℕ) (s : NodeState) → i < instance_of f → row_of (owe b k to (stage f s)).rows i ≡ row_of s.rows i
stage_row i f b k to s l =
    ap (λ z. row_of z i) (owe_rows b k to (stage f s) ∙ stage_rows f s) ∙ row_of-rows_after (next_number s) f s.rows i
    ∙ ap (λ z. if z then row_then (next_number s) f (after_fact (stands (row_of s.rows (instance_of f))) f) (row_of s.rows (instance_of f)) else row_of s.rows i) (ne_eqb (instance_of f) i (λ e. omega arith))

pub enter_row : (i j r : ℕ) (said : Option Command) (s : NodeState) → i < j → row_of (enter j r said s).rows i ≡ row_of s.rows i
unfolding enter
enter_row i j r said s l = by (entering_estimate j r said s)
  where
    by : (o : Option Estimated) → row_of (option_map_or (λ e. enter_with j e (leave_round j s)) o s).rows i ≡ row_of s.rows i
    by None = refl
    by (Some e) = stage_row i (Enter j e) _ _ _ (leave_round j s) l ∙ ap (λ z. row_of z i) (leave_rows j s)

carry_row : (i : ℕ) (d : Due) (s : NodeState) → i < place_of d → row_of (carry_out d s).rows i ≡ row_of s.rows i
unfolding carry_out propose conclude
carry_row i (Begin j) s l = enter_row i j 1 None s l
carry_row i (Offer j r v) s l = stage_row i (Propose j r v) _ _ _ s l
carry_row i (Conclude j v) s l = stage_row i (Decide j v) _ _ _ s l
carry_row i (MoveOn j) s l = enter_row i j _ None s l

pub due_beyond : (i : ℕ) (st : Standing) (t : Tally) (s u : NodeState) (d : Due) → due u ≡ Some d → IsStill i st t s u → i < place_of d
unfolding due open_instances
due_beyond i st t s u d x S = due_later u i (open_instances u) d (lowest_from 8 i 0 u.rows (first_beyond i st t u.rows S.row)) (row_due_at i st t u S.row ∙ S.still) x

-- and so the row itself, with what backs it
pub settle_row : (i : ℕ) (st : Standing) (t : Tally) (s : NodeState) → First i st t s.rows → due_of_row s i t st ≡ None → row_of (settle s).rows i ≡ row_of s.rows i
settle_row i st t s F q =
    (settle_keeps (λ u. IsStill i st t s u × (row_of u.rows i ≡ row_of s.rows i)) (λ u d x K. (still_goes i st t s u d x K.0, carry_row i d u (due_beyond i st t s u d x K.0) ∙ K.1)) s (record { row = F; still = q; onward = onward_not s }, refl)).1
