-- A node behind its restart: its rows are those of its promise, and the lowest instance that it has not decided comes first.
use Rattle.std.proofs.Common.{◌≡◌, ℕ, ◌+◌, ◌-◌, ◌≤◌, ◌<◌, inl, inr, Bool, true, false, ◌==◌, nat_lt, not, ◌||◌, if◌then◌else◌, List, [], ◌∷◌, ◌++◌, map, Option, None, Some, refl, ap, sym, ◌∙◌, subst, arith, eqb-true, eq-eqb, le_refl}
use Rattle.std.specs.Option.{option_map_or}
use Rattle.std.specs.List.{list_any}
use Rattle.std.proofs.lemmas.Bool.{lt-ltb, false≢true, eqb-false, ne_eqb, cases_lt, cases_order, and_from}
use Rattle.std.proofs.lemmas.Option.{none-some, same_Some}
use Rattle.rr_types.specs.declared.command.Command.{Command}
use Rattle.rr_types.specs.declared.command.RequestNo.{RequestNo}
use Rattle.rr_types.specs.declared.message.Body.{Body}
use Rattle.rr_types.specs.declared.message.Body.TheVariants as say
use Rattle.rr_types.specs.declared.promise.Entry.{Entry}
use Rattle.rr_types.specs.declared.promise.Standing.{Standing}
use Rattle.rr_types.specs.declared.promise.Standing.TheVariants.{Decided, Open}
use Rattle.rr_types.specs.Facts.{decision_of}
use Rattle.rr_types.specs.Promises.{AscendsFrom, standing_in, decided_from}
use Rattle.rr_types.specs.Registry.{is_same_request, has_request}
use Rattle.rr_types.specs.Rounds.{OpenAt, coordinator_of}
use Rattle.rr_types.specs.Standings.{is_undecided}
use Rattle.rr_model.specs.NodeState.{NodeState, Row, no_votes, row_of, standing_at, decided_command, open_instances}
use Rattle.rr_model.specs.NodeParts.{owe, backing_at, restate, restate_all}
use Rattle.rr_model.specs.NodeStep.{promised_row, restored, started}
use Rattle.rr_model.proofs.NodePrefixes.{none_below}
use Rattle.rr_model.proofs.NodeMoves.{if_true, if_false, Owes, owes_on, owes_new, from_to, estimated, open_first, standing_first}
use Rattle.rr_model.proofs.NodeCounts.{or_there}
use Rattle.rr_model.proofs.NodeFirsts.{AreDecidedUpTo, First, first_row, Onward, onward_not, onward_on, either, owe_onward, owe_rows, owe_pool, IsBeyond}

-- rows and pool are the same, and the node goes on from what it was
abbrev pub SameRows : NodeState → NodeState → Type 0
SameRows s t = (t.rows ≡ s.rows) × (t.pool ≡ s.pool) × Onward s t

same_on : (s t u : NodeState) → SameRows s t → SameRows t u → SameRows s u
same_on s t u a b = (b.0 ∙ a.0, b.1 ∙ a.1, onward_on s t u a.2 b.2)

owe_same : (b : Body) (k : Option ℕ) (to : List ℕ) (s : NodeState) → SameRows s (owe b k to s)
owe_same b k to s = (owe_rows b k to s, owe_pool b k to s, owe_onward b k to s)

restate_open : (i : ℕ) (s : NodeState) (o : OpenAt) (v : Option Command) → standing_at s i ≡ Some (Open o) → o.proposal ≡ v → SameRows s (restate i s)
unfolding restate
restate_open i s o None e a = rw (e, a) (either (SameRows s) _ _ (nat_lt o.stamp o.round) (owe_same _ _ _ s) (owe_same _ _ _ s))
restate_open i s o (Some v) e a = rw (e, a) (same_on s _ _ (either (SameRows s) _ _ (nat_lt o.stamp o.round) (owe_same _ _ _ s) (owe_same _ _ _ s)) (owe_same _ _ _ _))

restate_closed : (i : ℕ) (s : NodeState) → ((o : OpenAt) → standing_at s i ≡ Some (Open o) → ⊥) → (o : Option Standing) → standing_at s i ≡ o → SameRows s (restate i s)
unfolding restate
restate_closed i s shut None e = rw e (refl, refl, onward_not s)
restate_closed i s shut (Some (Decided v)) e = rw e (refl, refl, onward_not s)
restate_closed i s shut (Some (Open o)) e = absurd (shut o e)

restate_same : (i : ℕ) (s : NodeState) (o : Option Standing) → standing_at s i ≡ o → SameRows s (restate i s)
restate_same i s None e = restate_closed i s (λ o x. none-some _ (sym e ∙ x)) None e
restate_same i s (Some (Decided v)) e = restate_closed i s (λ o x. false≢true (ap is_undecided (sym e ∙ x))) (Some (Decided v)) e
restate_same i s (Some (Open o)) e = restate_open i s o o.proposal e refl

restate_all_same : (is : List ℕ) (s : NodeState) → SameRows s (restate_all is s)
restate_all_same [] s = (refl, refl, onward_not s)
restate_all_same (i ∷ is) s = same_on s (restate i s) (restate_all is (restate i s)) (restate_same i s (standing_at s i) refl) (restate_all_same is (restate i s))

-- an opening only owes
pub started_same : (n p : ℕ) (promise : List Entry) (next : ℕ) → SameRows (restored n p promise next) (started n p promise next)
unfolding started
started_same n p promise next = restate_all_same (open_instances (restored n p promise next)) (restored n p promise next)

-- the rows of a promise: the decided ones below i, and those from i on
pub record Parted (next low i : ℕ) (es : List Entry) : Type 0 where
  pub before : List Row
  pub later : List Entry
  pub below : AreDecidedUpTo low i before
  pub is : map (promised_row next) es ≡ before ++ map (promised_row next) later
  pub ascends : AscendsFrom i later
  pub same : standing_in later i ≡ standing_in es i

pub first_decided : (low : ℕ) (e : Entry) (es : List Entry) → AscendsFrom low (e ∷ es) → is_undecided (standing_in (e ∷ es) low) ≡ false → (e.instance ≡ low) × (is_undecided (Some e.standing) ≡ false)
first_decided low e es a d = by (e.instance == low) refl d
  where
    by : (b : Bool) → (e.instance == low) ≡ b → is_undecided (if b then Some e.standing else standing_in es low) ≡ false → (e.instance ≡ low) × (is_undecided (Some e.standing) ≡ false)
    by true x y = (eqb-true e.instance low x, y)
    by false x y = let l : low < e.instance + 1 = a.0 in absurd (false≢true (sym y ∙ ap is_undecided (none_below low (e.instance + 1) es a.1 l)))

pub parted : (next low i : ℕ) (es : List Entry) → AscendsFrom low es → low ≤ i → ((j : ℕ) → low ≤ j → j < i → is_undecided (standing_in es j) ≡ false) → Parted next low i es
parted next low i [] a l d = elim (cases_lt low i) [
  | inl x ↦ absurd (false≢true (sym (d low (le_refl low) x)))
  | inr x ↦ record { before = []; later = []; below = (let y : low ≡ i = omega arith in y); is = refl; ascends = tt; same = refl }
]
parted next low i (e ∷ es) a l d = elim (cases_lt low i) [
  | inl x ↦ (
      let f : (e.instance ≡ low) × (is_undecided (Some e.standing) ≡ false) = first_decided low e es a (d low (le_refl low) x) in
      let at : e.instance ≡ low = f.0 in
      let P : Parted next (low + 1) i es = parted next (low + 1) i es (subst (λ z. AscendsFrom (z + 1) es) at a.1) (omega arith)
      (λ j m k. sym (ap (λ t. is_undecided (if t then Some e.standing else standing_in es j)) (ne_eqb e.instance j (λ y. omega arith))) ∙ d j (omega arith) k) in
      record {
        before = promised_row next e ∷ P.before;
        later = P.later;
        below = (at, ap not f.1, P.below);
        is = ap (λ z. promised_row next e ∷ z) P.is;
        ascends = P.ascends;
        same = P.same ∙ sym (ap (λ t. if t then Some e.standing else standing_in es i) (ne_eqb e.instance i (λ y. omega arith)));
      }
      )
  | inr x ↦ (let y : low ≡ i = omega arith in record { before = []; later = e ∷ es; below = y; is = refl; ascends = subst (λ z. AscendsFrom z (e ∷ es)) y a; same = refl })
]

-- where i has a standing, the later entries begin with it
pub record Leading (i : ℕ) (st : Standing) (later : List Entry) : Type 0 where
  pub entry : Entry
  pub rest : List Entry
  pub is : later ≡ entry ∷ rest
  pub instance : entry.instance ≡ i
  pub standing : entry.standing ≡ st

pub leading : (i : ℕ) (st : Standing) (later : List Entry) → AscendsFrom i later → standing_in later i ≡ Some st → Leading i st later
leading i st [] a e = absurd (none-some st e)
leading i st (x ∷ es) a e = by (x.instance == i) refl e
  where
    by : (b : Bool) → (x.instance == i) ≡ b → (if b then Some x.standing else standing_in es i) ≡ Some st → Leading i st (x ∷ es)
    by true y z = record { entry = x; rest = es; is = refl; instance = eqb-true x.instance i y; standing = same_Some x.standing st z }
    by false y z = let l : i < x.instance + 1 = a.0 in absurd (none-some st (sym (none_below i (x.instance + 1) es a.1 l) ∙ z))

-- and where it has none, they lie beyond it
pub lie_beyond : (next i : ℕ) (later : List Entry) → AscendsFrom i later → standing_in later i ≡ None → IsBeyond i (map (promised_row next) later)
lie_beyond next i [] a e = tt
lie_beyond next i (x ∷ es) a e = by (x.instance == i) refl e
  where
    by : (b : Bool) → (x.instance == i) ≡ b → (if b then Some x.standing else standing_in es i) ≡ None → i < x.instance
    by true y z = absurd (none-some x.standing (sym z))
    by false y z = let l : i < x.instance + 1 = a.0 in elim (cases_order x.instance i) [
      | inl same ↦ absurd (eqb-false x.instance i y same)
      | inr o ↦ elim o [
        | inl m ↦ absurd (omega arith)
        | inr m ↦ m
      ]
    ]

-- whether a row has decided a command with this request number
abbrev pub decides_request : RequestNo → Row → Bool
decides_request q r = option_map_or (λ v. is_same_request v.request q) (decided_command r) false

unheld_one : (low : ℕ) (q : RequestNo) (x : Entry) (es : List Entry) (t : Bool) (st : Standing) → (x.instance == low) ≡ t → x.standing ≡ st → option_map_or (λ v. is_same_request v.request q) (decision_of (Some st)) false ≡ false → has_request (decided_from (low + 1) es) q ≡ false → has_request (decided_from low (x ∷ es)) q ≡ false
unheld_one low q x es false st a b e ih = rw a refl
unheld_one low q x es true (Open o) a b e ih = rw (a, b) refl
unheld_one low q x es true (Decided v) a b e ih = rw (a, b) (if_false (is_same_request v.request q) true (has_request (decided_from (low + 1) es) q) e ∙ ih)

neither : (a b : Bool) → (a || b) ≡ false → (a ≡ false) × (b ≡ false)
neither true b y = absurd (false≢true (sym y))
neither false b y = (refl, y)

-- no decided row has the request, so no decided entry has
pub unheld : (next low : ℕ) (q : RequestNo) (es : List Entry) → list_any (decides_request q) (map (promised_row next) es) ≡ false → has_request (decided_from low es) q ≡ false
unheld next low q [] e = refl
unheld next low q (x ∷ es) e =
    let both : (decides_request q (promised_row next x) ≡ false) × (list_any (decides_request q) (map (promised_row next) es) ≡ false) = neither _ _ e in
    unheld_one low q x es (x.instance == low) x.standing refl refl both.0 (unheld next (low + 1) q es both.1)

held_one : (low : ℕ) (q : RequestNo) (x : Entry) (es : List Entry) (v : Command) → x.instance ≡ low → x.standing ≡ Decided v → (if is_same_request v.request q then true else has_request (decided_from (low + 1) es) q) ≡ true → has_request (decided_from low (x ∷ es)) q ≡ true
held_one low q x es v a b e = let t : (x.instance == low) ≡ true = eq-eqb x.instance low a in rw (t, b) e

decided_is : (st : Standing) → is_undecided (Some st) ≡ false → (v : Command) × (st ≡ Decided v)
decided_is (Decided v) e = (v, refl)
decided_is (Open o) e = absurd (false≢true (sym e))

pub same_request : (q : RequestNo) → is_same_request q q ≡ true
same_request q = and_from _ _ (eq-eqb q.client q.client refl) (eq-eqb q.seq q.seq refl)

some_decided : (s t : Standing) → Some s ≡ Some t → s ≡ t
some_decided s t e = same_Some s t e

-- a command decided for an instance below which all is decided is among the decided ones
pub holds : (low i : ℕ) (c : Command) (es : List Entry) → AscendsFrom low es → low ≤ i → ((j : ℕ) → low ≤ j → j < i → is_undecided (standing_in es j) ≡ false) → standing_in es i ≡ Some (Decided c) → has_request (decided_from low es) c.request ≡ true
holds low i c [] a l d e = absurd (none-some _ e)
holds low i c (x ∷ es) a l d e = elim (cases_lt low i) [
  | inl m ↦ (
      let f : (x.instance ≡ low) × (is_undecided (Some x.standing) ≡ false) = first_decided low x es a (d low (le_refl low) m) in
      let v : (v : Command) × (x.standing ≡ Decided v) = decided_is x.standing f.1 in
      let at : x.instance ≡ low = f.0 in
      let rest : has_request (decided_from (low + 1) es) c.request ≡ true = holds (low + 1) i c es (subst (λ z. AscendsFrom (z + 1) es) at a.1) (omega arith)
      (λ j k n. sym (ap (λ t. is_undecided (if t then Some x.standing else standing_in es j)) (ne_eqb x.instance j (λ y. omega arith))) ∙ d j (omega arith) n)
      (sym (ap (λ t. if t then Some x.standing else standing_in es i) (ne_eqb x.instance i (λ y. omega arith))) ∙ e) in
      held_one low c.request x es v.0 at v.1 (or_there (is_same_request (v.0).request c.request) _ rest)
      )
  | inr m ↦ (
      let same : i ≡ low = omega arith in
      let here : standing_in (x ∷ es) low ≡ Some (Decided c) = subst (λ z. standing_in (x ∷ es) z ≡ Some (Decided c)) same e in
      let f : (x.instance ≡ low) × (is_undecided (Some x.standing) ≡ false) = first_decided low x es a (ap is_undecided here) in
      let is : x.standing ≡ Decided c = some_decided x.standing (Decided c) (sym (ap (λ t. if t then Some x.standing else standing_in es low) (eq-eqb x.instance low f.0)) ∙ here) in
      held_one low c.request x es c f.0 is (if_true (is_same_request c.request c.request) true _ (same_request c.request))
      )
]

-- what backs a promised row counts as the last fact of the promise
pub promised_backing : (next i : ℕ) (es : List Entry) (row : Row) → row_of (map (promised_row next) es) i ≡ Some row → (row.backing.entered ≡ next - 1) × (row.backing.decided ≡ next - 1)
promised_backing next i [] row e = absurd (none-some row e)
promised_backing next i (x ∷ es) row e = by (x.instance == i) (promised_backing next i es row) e
  where
    by : (b : Bool) → (row_of (map (promised_row next) es) i ≡ Some row → (row.backing.entered ≡ next - 1) × (row.backing.decided ≡ next - 1)) → (if b then Some (promised_row next x) else row_of (map (promised_row next) es) i) ≡ Some row → (row.backing.entered ≡ next - 1) × (row.backing.decided ≡ next - 1)
    by true ih y = (ap (λ (z : Row). z.backing.entered) (sym (same_Some _ row y)), ap (λ (z : Row). z.backing.decided) (sym (same_Some _ row y)))
    by false ih y = ih y

restates_estimate : (i : ℕ) (s : NodeState) (o : OpenAt) → standing_at s i ≡ Some (Open o) → o.stamp < o.round → o.proposal ≡ None → restate i s ≡ owe (say.Estimate i (estimated o.round o)) (Some (backing_at (λ b. b.entered) s i)) (coordinator_of o.round s.nodes ∷ []) s
unfolding restate
restates_estimate i s o e l none = let t : nat_lt o.stamp o.round ≡ true = lt-ltb o.stamp o.round l in rw (e, none, t) refl

starts_with : (n p : ℕ) (promise : List Entry) (next i : ℕ) (rest : List ℕ) → open_instances (restored n p promise next) ≡ i ∷ rest → started n p promise next ≡ restate_all rest (restate i (restored n p promise next))
unfolding started
starts_with n p promise next i rest e = ap (λ z. restate_all z (restored n p promise next)) e

-- a restarted node owes the coordinator of its round the estimate with which it had entered it
pub opened_owes : (n p i next : ℕ) (promise : List Entry) (o : OpenAt) → First i (Open o) no_votes (restored n p promise next).rows → i < 1048576 → 0 < next → o.stamp < o.round → o.proposal ≡ None → Owes (started n p promise next) (from_to p (coordinator_of o.round n) (say.Estimate i (estimated o.round o)))
opened_owes n p i next promise o F small some l none =
    let s : NodeState = restored n p promise next in
    let x : (rest : List ℕ) × (open_instances s ≡ i ∷ rest) = open_first i o no_votes s F small in
    let e : standing_at s i ≡ Some (Open o) = standing_first i (Open o) no_votes s F in
    let at : backing_at (λ b. b.entered) s i ≡ next - 1 = ap (λ z. option_map_or (λ (r : Row). r.backing.entered) z 0) (first_row i (Open o) no_votes s.rows F) ∙ (promised_backing next i promise _ (first_row i (Open o) no_votes s.rows F)).0 in
    let t : NodeState = owe (say.Estimate i (estimated o.round o)) (Some (backing_at (λ b. b.entered) s i)) (coordinator_of o.round n ∷ []) s in
    let owes : Owes t (from_to p (coordinator_of o.round n) (say.Estimate i (estimated o.round o))) = owes_new (say.Estimate i (estimated o.round o)) (backing_at (λ b. b.entered) s i) (coordinator_of o.round n ∷ []) s (coordinator_of o.round n) (0, omega arith, refl) (below_end (backing_at (λ b. b.entered) s i) next at some) in
    let all : started n p promise next ≡ restate_all x.0 t = starts_with n p promise next i x.0 x.1 ∙ ap (restate_all x.0) (restates_estimate i s o e l none) in
    subst (λ z. Owes z (from_to p (coordinator_of o.round n) (say.Estimate i (estimated o.round o)))) (sym all) (owes_on t (restate_all x.0 t) _ (restate_all_same x.0 t).2 owes)
  where
    below_end : (a next : ℕ) → a ≡ next - 1 → 0 < next → a < next + 0 + 0
    below_end a next e l = omega arith
