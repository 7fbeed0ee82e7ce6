-- What a step has owed, pooled or noted leaves who there is and where instances stand; an open instance is undecided.
use Rattle.std.proofs.Common.{◌≡◌, ◌≢◌, ◌+◌, ◌<◌, ◌≤◌, ℕ, arith, Bool, true, false, ltb, eqb, ◌||◌, ◌++◌, if◌then◌else◌, not, cond, List, [], ◌∷◌, refl, sym, ap, ◌∙◌, Option, None, Some, option_map}
use Rattle.std.proofs.lemmas.Bool.{ltb-true, ne_eqb, eqb-true, eqb-false, false≢true}
use Rattle.rr_types.specs.declared.message.Body.{Body}
use Rattle.rr_types.specs.Standings.{is_undecided, round_of}
use Rattle.rr_model.specs.NodeState.{NodeState, Row, everyone, others, is_decided_request, row_of, is_decided, undecided_from, first_undecided, standing_at}
use Rattle.rr_core.specs.Steps.{Stepped, stepped}
use Rattle.rr_model.specs.NodeParts.{owe, pool_add}
use Rattle.rr_model.specs.NodeStep.{wait_for, is_waiting, lowest_in_round, advance_refusal}
use Rattle.rr_types.specs.declared.command.Command.{Command}
use Rattle.rr_types.specs.declared.command.RequestNo.{RequestNo}
use Rattle.rr_types.specs.Registry.{has_request}

-- what is owed doesn't change who there is
pub everyone_after_owe : (body : Body) (backing : Option ℕ) (to : List ℕ) (s : NodeState) → everyone (owe body backing to s) ≡ everyone s
unfolding owe
everyone_after_owe body backing to s = refl

pub others_after_pool_add : (c : Command) (s : NodeState) → others (pool_add c s) ≡ others s
unfolding pool_add
others_after_pool_add c s = by (has_request s.pool c.request || is_decided_request s c.request)
  where
    by : (b : Bool) → others (if b then s else record s { pool = s.pool ++ c ∷ [] }) ≡ others s
    by true = refl
    by false = refl

pub others_after_wait_for : (q : RequestNo) (s : NodeState) → others (wait_for q s) ≡ others s
unfolding wait_for
others_after_wait_for q s = by (is_waiting s q)
  where
    by : (b : Bool) → others (if b then s else record s { waiting = s.waiting ++ q ∷ [] }) ≡ others s
    by true = refl
    by false = refl

-- where instance i stands by the rows, it hasn't decided
abbrev pub IsUndecidedIn : List Row → ℕ → Type 0
IsUndecidedIn rows i = is_undecided (option_map (λ (r : Row). r.standing) (row_of rows i)) ≡ true

-- the row of an instance that has decided stands against that
not_decided : (r : Row) → is_undecided (Some r.standing) ≡ true → is_decided r ≡ true → ⊥
not_decided r u d = false≢true (ap not (sym u) ∙ d)

-- by the tests of a row at the front
undecided_by : (i j : ℕ) (r : Row) (rs : List Row) → ((k : ℕ) → k ≤ i → IsUndecidedIn rs i → undecided_from k rs ≤ i) → j ≤ i → IsUndecidedIn (r ∷ rs) i → (below same here decided : Bool) → ltb r.instance j ≡ below → eqb r.instance j ≡ same → eqb r.instance i ≡ here → is_decided r ≡ decided → undecided_from j (r ∷ rs) ≤ i
undecided_by i j r rs more l u true same here decided a b c d =
    let off : eqb r.instance i ≡ false = ne_eqb _ _ (λ at. omega (arith, at, ltb-true _ _ a)) in
    let v : IsUndecidedIn rs i = rw off at u in
    rw a (more j l v)
undecided_by i j r rs more l u false false here decided a b c d = rw (a, b) l
undecided_by i j r rs more l u false true here false a b c d = rw (a, b, d) l
undecided_by i j r rs more l u false true true true a b c d = absurd (not_decided r (rw c at u) d)
undecided_by i j r rs more l u false true false true a b c d =
    let v : IsUndecidedIn rs i = rw c at u in
    let apart : r.instance ≢ i = eqb-false _ _ c in
    rw (a, b, d) (more (j + 1) (omega (arith, eqb-true _ _ b)) v)

-- the first undecided instance lies at or below each undecided one
undecided_below : (i j : ℕ) (rows : List Row) → j ≤ i → IsUndecidedIn rows i → undecided_from j rows ≤ i
undecided_below i j [] l u = l
undecided_below i j (r ∷ rs) l u = undecided_by i j r rs (λ k m v. undecided_below i k rs m v) l u (ltb r.instance j) (eqb r.instance j) (eqb r.instance i) (is_decided r) refl refl refl refl

pub undecided_first : (s : NodeState) (i : ℕ) → is_undecided (standing_at s i) ≡ true → i < 1048576 → first_undecided s < 1048576
undecided_first s i u l = let m : first_undecided s ≤ i = undecided_below i 0 s.rows (omega arith) u in omega arith

-- a command that is pooled leaves the standings alone
pub pooled_undecided : (c : Command) (i : ℕ) (s t : Stepped) → t ≡ stepped (pool_add c) s → is_undecided (standing_at s.state i) ≡ true → is_undecided (standing_at t.state i) ≡ true
unfolding pool_add
pooled_undecided c i s t e u = ap (λ (w : Stepped). is_undecided (standing_at w.state i)) e ∙ by (has_request s.state.pool c.request || is_decided_request s.state c.request)
  where
    by : (b : Bool) → is_undecided (standing_at (cond b s.state (record s.state { pool = s.state.pool ++ c ∷ [] })) i) ≡ true
    by true = u
    by false = u

-- where an advance isn't refused, its instance isn't in the last round
pub below_last_round : (i r : ℕ) (s : NodeState) → Some i ≡ lowest_in_round s → r ≡ round_of (standing_at s i) → advance_refusal s ≡ None → r ≢ 2147483647
below_last_round i r s e f h last = let k = rw (sym e, sym f, last) at h in cc
