-- A pool that has no command for an instance that no fact names still has none once a fact is staged that leaves its instance the estimate, or decides on it.
use Rattle.std.proofs.Common.{◌≡◌, ℕ, zero, suc, ◌+◌, ◌-◌, ◌≤◌, arith, append_assoc, take, Bool, true, false, eqb, cond, not, ◌&&◌, ◌||◌, nat_lt, if◌then◌else◌, List, [], ◌∷◌, ◌++◌, length, filter, ap, sym, ◌∙◌, refl, subst, Option, Some, None, option_map, is_some}
use Rattle.std.specs.Prelude.{find, slice_get}
use Rattle.std.specs.List.{list_any}
use Rattle.std.specs.Option.{option_map_or}
use Rattle.std.proofs.lemmas.Bool.{eqb-true, eq-eqb, ne_eqb, ltb-true, ltb-false, false≢true}
use Rattle.std.proofs.lemmas.List.Elements.{filter-append}
use Rattle.std.proofs.lemmas.List.Folds.{list_any-append, find-append}
use Rattle.std.proofs.lemmas.List.{take_more}
use Rattle.std.proofs.lemmas.Option.{none-some, slice_get_within, get_or_from_slice_get}
use Rattle.std.proofs.Math.Seq.{take-length}
use Rattle.rr_types.specs.declared.command.RequestNo.{RequestNo}
use Rattle.rr_types.specs.declared.command.Command.{Command}
use Rattle.rr_types.specs.declared.fact.Fact.{Fact}
use Rattle.rr_types.specs.declared.fact.Fact.TheVariants.{Enter, Propose, Adopt, Decide}
use Rattle.rr_types.specs.declared.promise.Standing.{Standing}
use Rattle.rr_types.specs.declared.promise.Standing.TheVariants.{Decided, Open}
use Rattle.rr_types.specs.Commands.{is_same_command}
use Rattle.rr_types.specs.Facts.{decision_of, instance_of, after_fact}
use Rattle.rr_types.specs.Registry.{is_same_request}
use Rattle.rr_types.specs.Rounds.{Estimated, OpenAt}
use Rattle.rr_types.specs.Standings.{estimate_of}
use Rattle.rr_model.specs.NodeState.{NodeState, Row, next_number, row_of, put_row, standing_at, undecided_from, lowest_undecided, open_instances, is_open}
use Rattle.rr_model.specs.NodeParts.{fresh_row, row_after, rows_after, pool_after, stage}
use Rattle.rr_state.proofs.SameLemmas.{and_left, and_right, both, command_is}
use Rattle.rr_state.specs.Listed as listed
use Rattle.rr_state.specs.Opened.{open_in}
use Rattle.rr_state.specs.Rowed.{AscendFrom, is_undecided}
use Rattle.rr_state.proofs.OpenLemmas.{slides, runs_short, open_is}
use Rattle.rr_core.specs.Places.{HasNoRound, first_free, is_estimate_of, is_estimate_beside, leaves_estimate, enters_with}
use Rattle.rr_core.specs.Steps.{Changed, combined, put_rows, without_requests, KeepsStanding, KeepsDecision, IsSpent, IsFrontSpent}
use Rattle.rr_core.proofs.OverLemmas.{row_of_put, row_is_of, changed_ascend, decisions_stay, after_keeps, first_keeps}
use Rattle.rr_core.proofs.SpentLemmas.{not_named}

or_right : (a b : Bool) → b ≡ true → (a || b) ≡ true
or_right true b h = refl
or_right false b h = h

-- an element that passes
any_witness : (p : ℕ → Bool) (xs : List ℕ) → list_any p xs ≡ true → (j : ℕ) × (list_any (λ k. eqb k j) xs ≡ true) × (p j ≡ true)
any_witness p [] h = absurd (false≢true h)
any_witness p (x ∷ xs) h = by (any_witness p xs) (p x) refl h
  where
    by : (list_any p xs ≡ true → (j : ℕ) × (list_any (λ k. eqb k j) xs ≡ true) × (p j ≡ true)) → (b : Bool) → p x ≡ b → (b || list_any p xs) ≡ true → (j : ℕ) × ((eqb x j || list_any (λ k. eqb k j) xs) ≡ true) × (p j ≡ true)
    by more true e f = let s : eqb x x ≡ true = eq-eqb _ _ refl in (x, rw s refl, e)
    by more false e f = let m = more f in (m.0, or_right (eqb x m.0) _ m.1, m.2)

any_of : (p : ℕ → Bool) (xs : List ℕ) (j : ℕ) → list_any (λ k. eqb k j) xs ≡ true → p j ≡ true → list_any p xs ≡ true
any_of p [] j h t = absurd (false≢true h)
any_of p (x ∷ xs) j h t = by (λ k. any_of p xs j k t) (eqb x j) refl h
  where
    by : (list_any (λ k. eqb k j) xs ≡ true → list_any p xs ≡ true) → (b : Bool) → eqb x j ≡ b → (b || list_any (λ k. eqb k j) xs) ≡ true → (p x || list_any p xs) ≡ true
    by more true e f = let s : p x ≡ true = ap p (eqb-true _ _ e) ∙ t in rw s refl
    by more false e f = or_right (p x) (list_any p xs) (more f)

kept_in : (q : ℕ → Bool) (xs : List ℕ) (j : ℕ) → list_any (λ k. eqb k j) xs ≡ true → q j ≡ true → list_any (λ k. eqb k j) (filter q xs) ≡ true
kept_in q [] j h t = absurd (false≢true h)
kept_in q (x ∷ xs) j h t = by (λ k. kept_in q xs j k t) (eqb x j) (q x) refl refl h
  where
    by : (list_any (λ k. eqb k j) xs ≡ true → list_any (λ k. eqb k j) (filter q xs) ≡ true) → (a b : Bool) → eqb x j ≡ a → q x ≡ b → (a || list_any (λ k. eqb k j) xs) ≡ true → list_any (λ k. eqb k j) (cond b (x ∷ filter q xs) (filter q xs)) ≡ true
    by more true true e f m = rw e refl
    by more true false e f m = absurd (false≢true (sym f ∙ ap q (eqb-true _ _ e) ∙ t))
    by more false true e f m = or_right (eqb x j) (list_any (λ k. eqb k j) (filter q xs)) (more m)
    by more false false e f m = more m

in_front : (p : ℕ → Bool) (xs ys : List ℕ) → list_any p xs ≡ true → list_any p (xs ++ ys) ≡ true
in_front p xs ys h = list_any-append p xs ys ∙ rw h refl

lowest_few : (n i : ℕ) (rows : List Row) → length (lowest_undecided n i rows) ≤ n
lowest_few zero i rows = omega arith
lowest_few (suc n) i rows = by (nat_lt (undecided_from i rows) 1048576) (lowest_few n (undecided_from i rows + 1) rows)
  where
    by : (b : Bool) → length (lowest_undecided n (undecided_from i rows + 1) rows) ≤ n → length (if b then undecided_from i rows ∷ lowest_undecided n (undecided_from i rows + 1) rows else []) ≤ suc n
    by true h = omega arith
    by false h = omega arith

-- an open instance is open as long as it hasn't decided
open_kept : (old new : List Row) (j : ℕ) → AscendFrom 0 old → AscendFrom 0 new → listed.KeepsDecisions old new → list_any (λ k. eqb k j) (lowest_undecided 8 0 old) ≡ true → is_undecided new j ≡ true → list_any (λ k. eqb k j) (lowest_undecided 8 0 new) ≡ true
open_kept old new j a b keeps h u = by (nat_lt (length (lowest_undecided 8 0 old)) 8) refl
  where
    shown : lowest_undecided 8 0 old ≡ open_in old
    shown = sym (open_is old (open_in old) refl)

    kept : list_any (λ k. eqb k j) (filter (is_undecided new) (lowest_undecided 8 0 old)) ≡ true
    kept = kept_in (is_undecided new) (lowest_undecided 8 0 old) j h u

    by : (t : Bool) → nat_lt (length (lowest_undecided 8 0 old)) 8 ≡ t → list_any (λ k. eqb k j) (lowest_undecided 8 0 new) ≡ true
    by true e = subst (λ (xs : List ℕ). list_any (λ k. eqb k j) xs ≡ true) (runs_short old new (lowest_undecided 8 0 old) a b keeps shown (ltb-true _ _ e) ∙ open_is new (open_in new) refl) kept
    by false e =
        let few = lowest_few 8 0 old in
        let full = ltb-false _ _ e in
        subst (λ (xs : List ℕ). list_any (λ k. eqb k j) xs ≡ true) (slides old new (lowest_undecided 8 0 old) 0 a b keeps shown (omega (arith, few, full)) ∙ open_is new (open_in new) refl) (in_front (λ k. eqb k j) (filter (is_undecided new) (lowest_undecided 8 0 old)) _ kept)

abbrev stands_at : List Row → ℕ → Option Standing
stands_at rows i = option_map (λ (q : Row). q.standing) (row_of rows i)

-- whether an instance that stands so has a command as its estimate
abbrev has_estimate : Option Standing → Command → Bool
has_estimate s c = option_map_or (λ v. is_same_command v c) (estimate_of s) false

undecided_of : (s : Option Standing) (c : Command) → has_estimate s c ≡ true → not (is_some (decision_of s)) ≡ true
undecided_of None c h = absurd (false≢true h)
undecided_of (Some (Decided v)) c h = absurd (false≢true h)
undecided_of (Some (Open o)) c h = refl

still_none : (p q keep : Command → Bool) (cs : List Command) → ((c : Command) → keep c ≡ true → p c ≡ false → q c ≡ false) → find p cs ≡ None → find q (filter keep cs) ≡ None
still_none p q keep [] h n = refl
still_none p q keep (c ∷ cs) h n = by (still_none p q keep cs h) (p c) (keep c) (q c) refl refl refl n
  where
    by : (find p cs ≡ None → find q (filter keep cs) ≡ None) → (a b d : Bool) → p c ≡ a → keep c ≡ b → q c ≡ d → cond a (Some c) (find p cs) ≡ None → find q (cond b (c ∷ filter keep cs) (filter keep cs)) ≡ None
    by more true b d e f g m = absurd (none-some c (sym m))
    by more false false d e f g m = more m
    by more false true true e f g m = absurd (false≢true (sym (h c f e) ∙ g))
    by more false true false e f g m = rw g (more m)

not_false : (b : Bool) → not b ≡ false → b ≡ true
not_false true h = refl
not_false false h = absurd (false≢true (sym h))

-- where estimates of kept commands stay, and decisions, what is left of the pool is spent
spent_after : (rows after : List Row) (pool : List Command) (keep : Command → Bool) → AscendFrom 0 rows → AscendFrom 0 after → listed.KeepsDecisions rows after → ((i : ℕ) → row_of after i ≡ None → row_of rows i ≡ None) → ((j : ℕ) (c : Command) → keep c ≡ true → is_estimate_of rows j c ≡ true → (is_undecided after j ≡ true) × (is_estimate_of after j c ≡ true)) → IsSpent rows pool → IsSpent after (filter keep pool)
unfolding first_free is_estimate_beside
spent_after rows after pool keep a b keeps named stay s = record {
  none = λ i n.
      still_none (λ c. not (is_estimate_beside rows (lowest_undecided 8 0 rows) i c)) (λ c. not (is_estimate_beside after (lowest_undecided 8 0 after) i c)) keep pool
      (λ c k e. ap not (beside i c k (not_false _ e))) (s.none i (named i n));
}
  where
    beside : (i : ℕ) (c : Command) → keep c ≡ true → list_any (λ j. not (eqb j i) && is_estimate_of rows j c) (lowest_undecided 8 0 rows) ≡ true → list_any (λ j. not (eqb j i) && is_estimate_of after j c) (lowest_undecided 8 0 after) ≡ true
    beside i c k e =
        let w = any_witness (λ j. not (eqb j i) && is_estimate_of rows j c) (lowest_undecided 8 0 rows) e in
        let t = stay w.0 c k (and_right (not (eqb w.0 i)) (is_estimate_of rows w.0 c) w.2) in
        any_of (λ j. not (eqb j i) && is_estimate_of after j c) (lowest_undecided 8 0 after) w.0 (open_kept rows after w.0 a b keeps w.1 t.0)
        (both (not (eqb w.0 i)) (is_estimate_of after w.0 c) (and_left (not (eqb w.0 i)) (is_estimate_of rows w.0 c) w.2) t.1)

-- with fewer commands
fewer : (rows : List Row) (pool : List Command) (keep : Command → Bool) → AscendFrom 0 rows → IsSpent rows pool → IsSpent rows (filter keep pool)
unfolding is_estimate_of
fewer rows pool keep a s = spent_after rows rows pool keep a a (λ i v d. d) (λ i n. n) (λ j c k e. (undecided_of (stands_at rows j) c e, e)) s

-- with one row more
spent_put : (rows : List Row) (r : Row) (pool : List Command) (keep : Command → Bool) → AscendFrom 0 rows → KeepsDecision rows r → ((c : Command) → keep c ≡ true → has_estimate (stands_at rows r.instance) c ≡ true → (decision_of (Some r.standing) ≡ None) × (has_estimate (Some r.standing) c ≡ true)) → IsSpent rows pool → IsSpent (put_row r rows) (filter keep pool)
unfolding is_estimate_of
spent_put rows r pool keep a k leaves s = spent_after rows (put_row r rows) pool keep a (changed_ascend (r ∷ []) rows a) (decisions_stay (r ∷ []) rows (k, tt)) (not_named rows r) stay s
  where
    stay : (j : ℕ) (c : Command) → keep c ≡ true → has_estimate (stands_at rows j) c ≡ true → (is_undecided (put_row r rows) j ≡ true) × (has_estimate (stands_at (put_row r rows) j) c ≡ true)
    stay j c kc e = by (eqb r.instance j) refl
      where
        by : (b : Bool) → eqb r.instance j ≡ b → (is_undecided (put_row r rows) j ≡ true) × (has_estimate (stands_at (put_row r rows) j) c ≡ true)
        by true f =
            let there : stands_at (put_row r rows) j ≡ Some r.standing = ap (λ (x : Option Row). option_map (λ (q : Row). q.standing) x) (row_of_put r rows j) ∙ rw f refl in
            let m = leaves c kc (ap (λ (i : ℕ). has_estimate (stands_at rows i) c) (eqb-true _ _ f) ∙ e) in
            (ap (λ (x : Option Standing). not (is_some (decision_of x))) there ∙ ap (λ (x : Option Command). not (is_some x)) m.0, ap (λ (x : Option Standing). has_estimate x c) there ∙ m.1)
        by false f =
            let there : stands_at (put_row r rows) j ≡ stands_at rows j = ap (λ (x : Option Row). option_map (λ (q : Row). q.standing) x) (row_of_put r rows j) ∙ rw f refl in
            (ap (λ (x : Option Standing). not (is_some (decision_of x))) there ∙ undecided_of (stands_at rows j) c e, ap (λ (x : Option Standing). has_estimate x c) there ∙ e)

-- with a fact more
spent_fact : (k : ℕ) (f : Fact) (rows : List Row) (pool : List Command) (keep : Command → Bool) → AscendFrom 0 rows → KeepsStanding (stands_at rows (instance_of f)) (after_fact (stands_at rows (instance_of f)) f) → ((c : Command) → keep c ≡ true → has_estimate (stands_at rows (instance_of f)) c ≡ true → (decision_of (after_fact (stands_at rows (instance_of f)) f) ≡ None) × (has_estimate (after_fact (stands_at rows (instance_of f)) f) c ≡ true)) → IsSpent rows pool → IsSpent (rows_after k f rows) (filter keep pool)
spent_fact k f rows pool keep a h leaves s = by (row_of rows (instance_of f)) refl (after_fact (stands_at rows (instance_of f)) f) refl
  where
    at : (d : Standing) → after_fact (stands_at rows (instance_of f)) f ≡ Some d → (c : Command) → keep c ≡ true → has_estimate (stands_at rows (instance_of f)) c ≡ true → (decision_of (Some d) ≡ None) × (has_estimate (Some d) c ≡ true)
    at d e c kc m = let l = leaves c kc m in (ap decision_of (sym e) ∙ l.0, ap (λ (x : Option Standing). has_estimate x c) (sym e) ∙ l.1)

    by : (x : Option Row) → row_of rows (instance_of f) ≡ x → (y : Option Standing) → after_fact (stands_at rows (instance_of f)) f ≡ y → IsSpent (rows_after k f rows) (filter keep pool)
    by None g None e =
        let after : after_fact None f ≡ None = ap (λ (x : Option Row). after_fact (option_map (λ (q : Row). q.standing) x) f) (sym g) ∙ e in
        let is : rows_after k f rows ≡ rows = rw (g, after) refl in
        subst (λ (os : List Row). IsSpent os (filter keep pool)) (sym is) (fewer rows pool keep a s)
    by (Some o) g None e =
        let after : after_fact (Some o.standing) f ≡ None = ap (λ (x : Option Row). after_fact (option_map (λ (q : Row). q.standing) x) f) (sym g) ∙ e in
        let is : rows_after k f rows ≡ rows = rw (g, after) refl in
        subst (λ (os : List Row). IsSpent os (filter keep pool)) (sym is) (fewer rows pool keep a s)
    by None g (Some d) e =
        let after : after_fact None f ≡ Some d = ap (λ (x : Option Row). after_fact (option_map (λ (q : Row). q.standing) x) f) (sym g) ∙ e in
        let r : Row = row_after k f d (fresh_row (instance_of f) d) in
        let is : rows_after k f rows ≡ put_row r rows = rw (g, after) refl in
        subst (λ (os : List Row). IsSpent os (filter keep pool)) (sym is) (spent_put rows r pool keep a (first_keeps k f rows r g refl) (at d e) s)
    by (Some o) g (Some d) e =
        let after : after_fact (Some o.standing) f ≡ Some d = ap (λ (x : Option Row). after_fact (option_map (λ (q : Row). q.standing) x) f) (sym g) ∙ e in
        let r : Row = row_after k f d o in
        let is : rows_after k f rows ≡ put_row r rows = rw (g, after) refl in
        subst (λ (os : List Row). IsSpent os (filter keep pool)) (sym is)
        (spent_put rows r pool keep a (after_keeps k f rows o r g after refl h) (λ c kc m. at d e c kc (sym (ap (λ (i : ℕ). has_estimate (stands_at rows i) c) (row_is_of rows (instance_of f) o g)) ∙ m)) s)

-- the rows ascend with a fact more, and keep what is decided
fact_keeps : (k : ℕ) (f : Fact) (rows : List Row) → AscendFrom 0 rows → KeepsStanding (stands_at rows (instance_of f)) (after_fact (stands_at rows (instance_of f)) f) → (AscendFrom 0 (rows_after k f rows)) × listed.KeepsDecisions rows (rows_after k f rows)
fact_keeps k f rows a h = by (row_of rows (instance_of f)) refl (after_fact (stands_at rows (instance_of f)) f) refl
  where
    Keeps : List Row → Type 0
    Keeps after = (AscendFrom 0 after) × listed.KeepsDecisions rows after

    put : (r : Row) → KeepsDecision rows r → Keeps (put_row r rows)
    put r k = (changed_ascend (r ∷ []) rows a, decisions_stay (r ∷ []) rows (k, tt))

    by : (x : Option Row) → row_of rows (instance_of f) ≡ x → (y : Option Standing) → after_fact (stands_at rows (instance_of f)) f ≡ y → Keeps (rows_after k f rows)
    by x g None e = by_none x g (ap (λ (z : Option Row). after_fact (option_map (λ (q : Row). q.standing) z) f) (sym g) ∙ e)
      where
        by_none : (z : Option Row) → row_of rows (instance_of f) ≡ z → after_fact (option_map (λ (q : Row). q.standing) z) f ≡ None → Keeps (rows_after k f rows)
        by_none None m after = let is : rows_after k f rows ≡ rows = rw (m, after) refl in subst Keeps (sym is) (a, λ i v d. d)
        by_none (Some o) m after = let is : rows_after k f rows ≡ rows = rw (m, after) refl in subst Keeps (sym is) (a, λ i v d. d)
    by None g (Some d) e =
        let after : after_fact None f ≡ Some d = ap (λ (z : Option Row). after_fact (option_map (λ (q : Row). q.standing) z) f) (sym g) ∙ e in
        let r : Row = row_after k f d (fresh_row (instance_of f) d) in
        let is : rows_after k f rows ≡ put_row r rows = rw (g, after) refl in
        subst Keeps (sym is) (put r (first_keeps k f rows r g refl))
    by (Some o) g (Some d) e =
        let after : after_fact (Some o.standing) f ≡ Some d = ap (λ (z : Option Row). after_fact (option_map (λ (q : Row). q.standing) z) f) (sym g) ∙ e in
        let r : Row = row_after k f d o in
        let is : rows_after k f rows ≡ put_row r rows = rw (g, after) refl in
        subst Keeps (sym is) (put r (after_keeps k f rows o r g after refl h))

keep_all : (cs : List Command) → filter (λ c. true) cs ≡ cs
keep_all [] = refl
keep_all (c ∷ cs) = ap (λ (x : List Command). c ∷ x) (keep_all cs)

-- an estimate that is this command is the command of which it is the estimate
estimate_is : (s : Option Standing) (v c : Command) → option_map_or (λ w. is_same_command w v) (estimate_of s) true ≡ true → has_estimate s c ≡ true → is_same_command v c ≡ true
estimate_is None v c l m = absurd (false≢true m)
estimate_is (Some (Decided w)) v c l m = absurd (false≢true m)
estimate_is (Some (Open o)) v c l m = ap (λ (w : Command). is_same_command w c) (sym (command_is o.estimate v l)) ∙ m

itself : (q : RequestNo) → is_same_request q q ≡ true
itself q = let a : eqb q.client q.client ≡ true = eq-eqb _ _ refl in let b : eqb q.seq q.seq ≡ true = eq-eqb _ _ refl in rw (a, b) refl

proposed : (s : Option Standing) (v c : Command) (i r : ℕ) → has_estimate s c ≡ true → (decision_of (after_fact s (Propose i r v)) ≡ None) × (has_estimate (after_fact s (Propose i r v)) c ≡ true)
proposed None v c i r m = absurd (false≢true m)
proposed (Some (Decided w)) v c i r m = absurd (false≢true m)
proposed (Some (Open o)) v c i r m = (refl, m)

adopted : (s : Option Standing) (v c : Command) (i r : ℕ) → is_same_command v c ≡ true → has_estimate s c ≡ true → (decision_of (after_fact s (Adopt i r v)) ≡ None) × (has_estimate (after_fact s (Adopt i r v)) c ≡ true)
adopted None v c i r l m = absurd (false≢true m)
adopted (Some (Decided w)) v c i r l m = absurd (false≢true m)
adopted (Some (Open o)) v c i r l m = (refl, l)

-- a command that isn't taken out of the pool isn't the decided one
not_decided : (v c : Command) → not (is_same_request c.request v.request) ≡ true → is_same_command v c ≡ true → ⊥
not_decided v c k l = false≢true (ap not (sym (ap (λ (w : Command). is_same_request c.request w.request) (command_is v c l) ∙ itself c.request)) ∙ k)

abbrev Stays : Fact → NodeState → Type 0
Stays f s = AscendFrom 0 s.rows → KeepsStanding (standing_at s (instance_of f)) (after_fact (standing_at s (instance_of f)) f) → leaves_estimate f (estimate_of (standing_at s (instance_of f))) ≡ true → IsSpent s.rows s.pool → IsSpent (rows_after (next_number s) f s.rows) (pool_after f s.pool)

pub stage_spent : (f : Fact) (s : NodeState) → Stays f s
stage_spent (Enter i e) s a h l p =
    subst (λ (cs : List Command). IsSpent (rows_after (next_number s) (Enter i e) s.rows) cs) (keep_all s.pool)
    (spent_fact (next_number s) (Enter i e) s.rows s.pool (λ c. true) a h (λ c k m. (refl, estimate_is (stands_at s.rows i) e.command c l m)) p)
stage_spent (Propose i r v) s a h l p =
    subst (λ (cs : List Command). IsSpent (rows_after (next_number s) (Propose i r v) s.rows) cs) (keep_all s.pool)
    (spent_fact (next_number s) (Propose i r v) s.rows s.pool (λ c. true) a h (λ c k m. proposed (stands_at s.rows i) v c i r m) p)
stage_spent (Adopt i r v) s a h l p =
    subst (λ (cs : List Command). IsSpent (rows_after (next_number s) (Adopt i r v) s.rows) cs) (keep_all s.pool)
    (spent_fact (next_number s) (Adopt i r v) s.rows s.pool (λ c. true) a h (λ c k m. adopted (stands_at s.rows i) v c i r (estimate_is (stands_at s.rows i) v c l m) m) p)
stage_spent (Decide i v) s a h l p =
    spent_fact (next_number s) (Decide i v) s.rows s.pool (λ c. not (is_same_request c.request v.request)) a h (λ c k m. absurd (not_decided v c k (estimate_is (stands_at s.rows i) v c l m))) p

-- a pool with more commands, none of which is free
spent_more : (rows : List Row) (pool more : List Command) → IsSpent rows pool → ((i : ℕ) → row_of rows i ≡ None → first_free rows (lowest_undecided 8 0 rows) i more ≡ None) → IsSpent rows (pool ++ more)
unfolding first_free
spent_more rows pool more s m = record { none = λ i n. find-append _ pool more ∙ rw (s.none i n) (m i n) }

-- a command isn't free that is the estimate of an open instance
blocked : (rows : List Row) (taken : List RequestNo) (c : Command) (j : ℕ) → list_any (λ k. eqb k j) (lowest_undecided 8 0 rows) ≡ true → is_estimate_of rows j c ≡ true → (i : ℕ) → (j ≡ i → ⊥) → first_free rows (lowest_undecided 8 0 rows) i (without_requests taken (c ∷ [])) ≡ None
unfolding first_free is_estimate_beside
blocked rows taken c j opened est i apart = by (list_any (λ q. is_same_request q c.request) taken)
  where
    other : not (eqb j i) ≡ true
    other = ap not (ne_eqb _ _ apart)

    beside : list_any (λ k. not (eqb k i) && is_estimate_of rows k c) (lowest_undecided 8 0 rows) ≡ true
    beside = any_of (λ k. not (eqb k i) && is_estimate_of rows k c) (lowest_undecided 8 0 rows) j opened (both (not (eqb j i)) (is_estimate_of rows j c) other est)

    by : (b : Bool) → find (λ d. not (list_any (λ k. not (eqb k i) && is_estimate_of rows k d) (lowest_undecided 8 0 rows))) (cond (not b) (c ∷ []) []) ≡ None
    by true = refl
    by false = rw beside refl

-- an instance that is named isn't one that isn't
named_apart : (rows : List Row) (i j : ℕ) (d : Standing) → stands_at rows j ≡ Some d → row_of rows i ≡ None → j ≡ i → ⊥
named_apart rows i j d s n e = none-some d (sym (ap (λ (x : Option Row). option_map (λ (q : Row). q.standing) x) n) ∙ sym (ap (stands_at rows) e) ∙ s)

stands_after : (k : ℕ) (i : ℕ) (e : Estimated) (rows : List Row) → stands_at (rows_after k (Enter i e) rows) i ≡ Some (Open (record { round = e.round; stamp = e.stamp; estimate = e.command; proposal = None }))
stands_after k i e rows = by (row_of rows i) refl
  where
    stood : Standing
    stood = Open (record { round = e.round; stamp = e.stamp; estimate = e.command; proposal = None })

    put : (r : Row) → r.instance ≡ i → stands_at (put_row r rows) i ≡ Some r.standing
    put r same = let on : eqb r.instance i ≡ true = eq-eqb _ _ same in ap (λ (x : Option Row). option_map (λ (q : Row). q.standing) x) (row_of_put r rows i) ∙ rw on refl

    by : (x : Option Row) → row_of rows i ≡ x → stands_at (rows_after k (Enter i e) rows) i ≡ Some stood
    by None g = rw g (put (row_after k (Enter i e) stood (fresh_row i stood)) refl)
    by (Some o) g = rw g (put (row_after k (Enter i e) stood o) (row_is_of rows i o g))

-- an open instance enters its first round with the one command that isn't known to be no longer free
pub front_spent : (k i : ℕ) (e : Estimated) (rows : List Row) (taken : List RequestNo) (cs : List Command) (c : Command) → AscendFrom 0 rows → KeepsStanding (stands_at rows i) (after_fact (stands_at rows i) (Enter i e)) → estimate_of (stands_at rows i) ≡ None → list_any (λ j. eqb j i) (lowest_undecided 8 0 rows) ≡ true → is_same_command e.command c ≡ true → IsSpent rows (without_requests taken cs) → IsSpent (rows_after k (Enter i e) rows) (without_requests taken (cs ++ c ∷ []))
unfolding is_estimate_of
front_spent k i e rows taken cs c a h none opened same s = subst (IsSpent after) (sym (filter-append _ cs (c ∷ []))) (spent_more after (without_requests taken cs) (without_requests taken (c ∷ [])) front last)
  where
    after : List Row
    after = rows_after k (Enter i e) rows

    stands : stands_at after i ≡ Some (Open (record { round = e.round; stamp = e.stamp; estimate = e.command; proposal = None }))
    stands = stands_after k i e rows

    leaves : (d : Command) → has_estimate (stands_at rows i) d ≡ true → ⊥
    leaves d m = false≢true (sym (ap (λ (x : Option Command). option_map_or (λ v. is_same_command v d) x false) none) ∙ m)

    front : IsSpent after (without_requests taken cs)
    front = subst (IsSpent after) (keep_all (without_requests taken cs)) (spent_fact k (Enter i e) rows (without_requests taken cs) (λ d. true) a h (λ d t m. absurd (leaves d m)) s)

    stays : (AscendFrom 0 after) × listed.KeepsDecisions rows after
    stays = fact_keeps k (Enter i e) rows a h

    open_after : list_any (λ j. eqb j i) (lowest_undecided 8 0 after) ≡ true
    open_after = open_kept rows after i a stays.0 stays.1 opened (ap (λ (x : Option Standing). not (is_some (decision_of x))) stands)

    last : (j : ℕ) → row_of after j ≡ None → first_free after (lowest_undecided 8 0 after) j (without_requests taken (c ∷ [])) ≡ None
    last j n = blocked after taken c i open_after (ap (λ (x : Option Standing). has_estimate x c) stands ∙ same) j (named_apart after j i _ stands n)

-- commands but the last, and the last
last_off : (xs : List Command) (c : Command) → slice_get xs (length xs - 1) ≡ Some c → take (length xs - 1) xs ++ c ∷ [] ≡ xs
last_off xs c h =
    let l = slice_get_within xs (length xs - 1) c h in
    let n : length xs - 1 + 1 ≡ length xs = omega (arith, l) in
    ap (λ (d : Command). take (length xs - 1) xs ++ d ∷ []) (sym (get_or_from_slice_get xs (length xs - 1) c c h)) ∙ sym (take_more xs (length xs - 1) c l) ∙ ap (λ k. take k xs) n ∙ take-length xs

abbrev Keeps : Fact → NodeState → Type 0
Keeps f s = KeepsStanding (standing_at s (instance_of f)) (after_fact (standing_at s (instance_of f)) f)

abbrev StageIsSpent : Fact → NodeState → Type 0
StageIsSpent f s = IsSpent (stage f s).rows (stage f s).pool

-- what a step knows of the pool stays known with a fact that leaves its instance the estimate
spent_stays : (f : Fact) (base : NodeState) (c : Changed) (s : NodeState) → combined base c ≡ s → AscendFrom 0 base.rows → Keeps f s → leaves_estimate f (estimate_of (standing_at s (instance_of f))) ≡ true → IsSpent (put_rows c.rows base.rows) (without_requests c.taken (base.pool ++ c.pooled)) → StageIsSpent f s
unfolding stage
spent_stays f base c s e a h l p = stage_spent f s (subst (λ (t : NodeState). AscendFrom 0 t.rows) e (changed_ascend c.rows base.rows a)) h l (subst (λ (t : NodeState). IsSpent t.rows t.pool) e p)

pub spent_at : (f : Fact) (base : NodeState) (c : Changed) (s : NodeState) (o : OpenAt) → combined base c ≡ s → AscendFrom 0 base.rows → Keeps f s → standing_at s (instance_of f) ≡ Some (Open o) → leaves_estimate f (Some o.estimate) ≡ true → IsSpent (put_rows c.rows base.rows) (without_requests c.taken (base.pool ++ c.pooled)) → StageIsSpent f s
spent_at f base c s o e a h there l p = spent_stays f base c s e a h (ap (λ (x : Option Standing). leaves_estimate f (estimate_of x)) there ∙ l) p

none_leaves : (f : Fact) → leaves_estimate f None ≡ true
none_leaves (Enter i e) = refl
none_leaves (Propose i r v) = refl
none_leaves (Adopt i r v) = refl
none_leaves (Decide i v) = refl

-- or about an instance that has none
pub spent_without : (f : Fact) (base : NodeState) (c : Changed) (s : NodeState) → combined base c ≡ s → AscendFrom 0 base.rows → Keeps f s → HasNoRound (standing_at s (instance_of f)) → IsSpent (put_rows c.rows base.rows) (without_requests c.taken (base.pool ++ c.pooled)) → StageIsSpent f s
spent_without f base c s e a h none p = spent_stays f base c s e a h (ap (leaves_estimate f) none.estimate ∙ none_leaves f) p

front_by : (f : Fact) (base : NodeState) (c : Changed) (x : Option Command) → slice_get c.pooled (length c.pooled - 1) ≡ x → AscendFrom 0 base.rows → Keeps f (combined base c) → HasNoRound (standing_at (combined base c) (instance_of f)) → is_open (combined base c) (instance_of f) ≡ true → option_map_or (enters_with f) x false ≡ true → IsFrontSpent (put_rows c.rows base.rows) c.taken base.pool c.pooled → StageIsSpent f (combined base c)
unfolding stage open_instances
front_by f base c None g a h none opened e p = absurd (false≢true e)
front_by (Propose i r v) base c (Some d) g a h none opened e p = absurd (false≢true e)
front_by (Adopt i r v) base c (Some d) g a h none opened e p = absurd (false≢true e)
front_by (Decide i v) base c (Some d) g a h none opened e p = absurd (false≢true e)
front_by (Enter i v) base c (Some d) g a h none opened e p =
    let s = combined base c in
    let cs = base.pool ++ take (length c.pooled - 1) c.pooled in
    let whole : cs ++ d ∷ [] ≡ base.pool ++ c.pooled = append_assoc base.pool (take (length c.pooled - 1) c.pooled) (d ∷ []) ∙ ap (λ (ds : List Command). base.pool ++ ds) (last_off c.pooled d g) in
    subst (λ (ds : List Command). IsSpent (rows_after (next_number s) (Enter i v) s.rows) (without_requests c.taken ds)) whole
    (front_spent (next_number s) i v s.rows c.taken cs d (changed_ascend c.rows base.rows a) h none.estimate opened e p)

-- or with which an open instance enters its first round with the command that was pooled last
pub spent_by_entering : (f : Fact) (base : NodeState) (c : Changed) (s : NodeState) → combined base c ≡ s → AscendFrom 0 base.rows → Keeps f s → HasNoRound (standing_at s (instance_of f)) → is_open s (instance_of f) ≡ true → option_map_or (enters_with f) (slice_get c.pooled (length c.pooled - 1)) false ≡ true → IsFrontSpent (put_rows c.rows base.rows) c.taken base.pool c.pooled → StageIsSpent f s
spent_by_entering f base c s e a h none opened last p =
    subst (StageIsSpent f) e
    (front_by f base c (slice_get c.pooled (length c.pooled - 1)) refl a (subst (Keeps f) (sym e) h) (subst (λ (t : NodeState). HasNoRound (standing_at t (instance_of f))) (sym e) none) (subst (λ (t : NodeState). is_open t (instance_of f) ≡ true) (sym e) opened) last p)
