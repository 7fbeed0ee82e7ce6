-- What a node does for its lowest undecided instance leaves the others as they stand, but that it may begin some later ones.
use Rattle.std.proofs.Common.{◌≡◌, ℕ, ◌+◌, ◌<◌, ◌⊎◌, inl, inr, Bool, true, false, ◌==◌, ◌&&◌, ◌||◌, not, find, filter, nat_lt, is_some, if◌then◌else◌, List, [], ◌∷◌, ◌++◌, Option, None, Some, option_map, refl, ap, sym, ◌∙◌, subst, arith, eq-eqb}
use Rattle.std.specs.List.{list_any}
use Rattle.std.specs.Option.{option_map_or}
use Rattle.std.proofs.lemmas.Bool.{false≢true, ne_eqb, cases_eq}
use Rattle.std.proofs.lemmas.Option.{none-some, same_Some}
use Rattle.rr_types.specs.declared.command.Command.{Command}
use Rattle.rr_types.specs.declared.fact.Fact.{Fact}
use Rattle.rr_types.specs.declared.fact.Fact.TheVariants.{Enter, Propose, Adopt, Decide}
use Rattle.rr_types.specs.declared.message.Body.{Body}
use Rattle.rr_types.specs.declared.message.Body.TheVariants as say
use Rattle.rr_types.specs.declared.promise.Standing.{Standing}
use Rattle.rr_types.specs.declared.promise.Standing.TheVariants.{Decided, Open}
use Rattle.rr_types.specs.Facts.{instance_of, after_fact}
use Rattle.rr_types.specs.Nodes.{has_member, with_member}
use Rattle.rr_types.specs.Rounds.{Estimated, OpenAt, coordinator_of}
use Rattle.rr_types.specs.Standings.{is_undecided, round_of, stamp_of, estimate_of}
use Rattle.rr_types.specs.Commands.{is_same_command}
use Rattle.rr_types.specs.Registry.{is_same_request}
use Rattle.rr_model.specs.NodeState.{NodeState, Row, Tally, no_votes, row_of, put_row, standing_at, open_instances, next_number}
use Rattle.rr_model.specs.NodeParts.{owe, stage, pool_add, is_estimate_beside, free_command, leave_round, enter_with, entering_estimate, enter, propose, conclude}
use Rattle.rr_model.specs.NodeDue.{Due, Begin, Offer, Conclude, MoveOn, pick, is_majority, due_of_coordinator, due_of_participant, due_of_row, due_at, first_due, due, carry_out, settle}
use Rattle.rr_types.specs.declared.input.Input.TheVariants.{Hear, Advance}
use Rattle.rr_model.specs.NodeStep.{change_tally, count_estimate, count_ack, acknowledge, heard_body, node_step}
use Rattle.rr_model.proofs.NodeEnds.{settles_on, settled_stays}
use Rattle.rr_model.proofs.NodeRows.{stands, row_then, row_of-rows_after, row_of-put_row, row_of_instance}
use Rattle.rr_model.proofs.NodeFirsts.{either, first_row, First, onward_not, owe_rows, leave_rows, stage_rows, stage_here, stage_owe_onward, IsStill, still_goes, due_beyond, at_place, place_of, settle_keeps}
use Rattle.rr_model.proofs.NodeMoves.{enters_with, count_sits, proposes, if_true, if_false, no_pick, nobody, joined_nobody, not_member, Sits, sits_on, standing_first, open_first, due_first, quiet, quiet_new, from_to, heard_here, estimated, entered, advances_to, estimate_taken, pool_rows, pool_sits, voted, proposing, offered}
use Rattle.rr_model.proofs.SameCommands.{command_same}
use Rattle.rr_model.proofs.NodeRestates.{same_request}
use Rattle.rr_model.proofs.NodeAnswers.{count_ack_sits, adopting, proposal_taken, ack_taken, acked, concluded, enough_here, is_enough}

-- round 1, with the command
abbrev pub at_first : Command → OpenAt
at_first c = record { round = 1; stamp = 0; estimate = c; proposal = None }

-- no votes were heard for an instance above i
abbrev pub IsQuietAbove : ℕ → NodeState → Type 0
IsQuietAbove i s = (j : ℕ) → i < j → (row : Row) → row_of s.rows j ≡ Some row → row.tally ≡ no_votes

-- instance j stands as it did, or was begun
abbrev pub StandsOn : ℕ → NodeState → NodeState → Type 0
StandsOn j s u = (standing_at u j ≡ standing_at s j) ⊎ ((standing_at s j ≡ None) × ((v : Command) × (standing_at u j ≡ Some (Open (at_first v)))))

-- so do all but instance i
pub record Beside (i : ℕ) (s u : NodeState) : Type 0 where
  pub quiet : IsQuietAbove i u
  pub others : (j : ℕ) → (j ≡ i → ⊥) → StandsOn j s u

-- where no votes were heard above i
abbrev pub Loose : ℕ → NodeState → NodeState → Type 0
Loose i s u = IsQuietAbove i s → Beside i s u

pub loose_not : (i : ℕ) (s : NodeState) → Loose i s s
loose_not i s q = record { quiet = q; others = λ j other. inl refl }

stands_both : (j : ℕ) (s t u : NodeState) → StandsOn j s t → StandsOn j t u → StandsOn j s u
stands_both j s t u (inl a) (inl b) = inl (b ∙ a)
stands_both j s t u (inl a) (inr b) = inr (sym a ∙ b.0, b.1)
stands_both j s t u (inr a) (inl b) = inr (a.0, (a.1.0, b ∙ a.1.1))
stands_both j s t u (inr a) (inr b) = absurd (none-some _ (sym b.0 ∙ a.1.1))

pub loose_on : (i : ℕ) (s t u : NodeState) → Loose i s t → Loose i t u → Loose i s u
loose_on i s t u a b q =
    let A : Beside i s t = a q in
    let B : Beside i t u = b A.quiet in
    record { quiet = B.quiet; others = λ j other. stands_both j s t u (A.others j other) (B.others j other) }

-- the rows of all others are the same
abbrev pub SameBeside : ℕ → NodeState → NodeState → Type 0
SameBeside i s u = (j : ℕ) → (j ≡ i → ⊥) → row_of u.rows j ≡ row_of s.rows j

pub same_loose : (i : ℕ) (s u : NodeState) → SameBeside i s u → Loose i s u
same_loose i s u e q = record {
  quiet = λ j l row x. q j l row (sym (e j (λ y. omega arith)) ∙ x);
  others = λ j other. inl (ap (option_map (λ (r : Row). r.standing)) (e j other));
}

pub rows_loose : (i : ℕ) (s u : NodeState) → u.rows ≡ s.rows → Loose i s u
rows_loose i s u e = same_loose i s u (λ j other. ap (λ z. row_of z j) e)

pub stage_beside : (f : Fact) (b : Body) (k : Option ℕ) (to : List ℕ) (s : NodeState) → SameBeside (instance_of f) s (owe b k to (stage f s))
stage_beside f b k to s j other =
    ap (λ z. row_of z j) (owe_rows b k to (stage f s) ∙ stage_rows f s) ∙ row_of-rows_after (next_number s) f s.rows j
    ∙ ap (λ z. if z then row_then (next_number s) f (after_fact (stands (row_of s.rows (instance_of f))) f) (row_of s.rows (instance_of f)) else row_of s.rows j) (ne_eqb (instance_of f) j (λ e. other (sym e)))

-- where no votes were heard nothing is due
no_due_for : (j : ℕ) (st : Standing) (s : NodeState) → s.suspects ≡ 0 → due_of_row s j no_votes st ≡ None
no_due_for j (Decided v) s trusts = refl
no_due_for j (Open o) s trusts = by (coordinator_of o.round s.nodes == s.node) o.proposal refl
  where
    coordinates : (v : Option Command) → due_of_coordinator s j no_votes o.round v ≡ None
    coordinates None = ap (option_map (λ v. Offer j o.round v)) (no_pick s.nodes)
    coordinates (Some v) =
        if_false (is_majority s 0) _ _ (nobody s)
        ∙ ap (λ z. if is_majority s z && nat_lt o.round 2147483647 then Some (MoveOn j) else None) (joined_nobody 0)
        ∙ ap (λ z. if z && nat_lt o.round 2147483647 then Some (MoveOn j) else None) (nobody s)

    by : (b : Bool) (v : Option Command) → o.proposal ≡ v → (if b then due_of_coordinator s j no_votes o.round o.proposal else due_of_participant s j o.round) ≡ None
    by true v e = ap (due_of_coordinator s j no_votes o.round) e ∙ coordinates v
    by false v e = ap (λ z. if z && nat_lt o.round 2147483647 then Some (MoveOn j) else None) (ap (λ z. has_member z (coordinator_of o.round s.nodes)) trusts ∙ not_member (coordinator_of o.round s.nodes))

found : (s : NodeState) (is : List ℕ) (d : Due) → first_due s is ≡ Some d → (j : ℕ) × (due_at s j ≡ Some d)
found s [] d x = absurd (none-some d x)
found s (j ∷ js) d x = by (found s js d) (due_at s j) refl x
  where
    by : (first_due s js ≡ Some d → (k : ℕ) × (due_at s k ≡ Some d)) → (o : Option Due) → due_at s j ≡ o → option_map_or Some o (first_due s js) ≡ Some d → (k : ℕ) × (due_at s k ≡ Some d)
    by ih None e y = ih y
    by ih (Some c) e y = (j, e ∙ y)

-- what is due above i is to begin an instance
only_begins : (i j : ℕ) (s : NodeState) (d : Due) → s.suspects ≡ 0 → IsQuietAbove i s → i < j → (o : Option Row) → row_of s.rows j ≡ o → due_at s j ≡ Some d → (row_of s.rows j ≡ None) × (d ≡ Begin j)
only_begins i j s d trusts q l None e x = (e, by (is_some (free_command s j)) (rw e at x))
  where
    by : (b : Bool) → (if b then Some (Begin j) else None) ≡ Some d → d ≡ Begin j
    by true y = sym (same_Some _ d y)
    by false y = absurd (none-some d y)
only_begins i j s d trusts q l (Some row) e x =
    let y : due_of_row s j row.tally row.standing ≡ Some d = rw e at x in
    absurd (none-some d (sym (no_due_for j row.standing s trusts) ∙ ap (λ z. due_of_row s j z row.standing) (sym (q j l row e)) ∙ y))

-- the row with which an instance is begun
abbrev the_fact : ℕ → Command → Fact
the_fact j v = Enter j (record { round = 1; stamp = 0; command = v })

record IsBegun (j : ℕ) (v : Command) (u g : NodeState) : Type 0 where
  row : Row
  here : row_of g.rows j ≡ Some row
  tally : row.tally ≡ no_votes
  standing : row.standing ≡ Open (at_first v)
  beside : SameBeside j u g

begun_row : (j : ℕ) (v : Command) (u : NodeState) → row_of u.rows j ≡ None → IsBegun j v u (enter_with j (record { round = 1; stamp = 0; command = v }) (leave_round j u))
begun_row j v u none =
    let w : NodeState = leave_round j u in
    let at : row_of w.rows j ≡ None = ap (λ z. row_of z j) (leave_rows j u) ∙ none in
    record {
      row = _;
      here = ap (λ z. row_of z j) (owe_rows _ _ _ (stage (the_fact j v) w) ∙ stage_rows (the_fact j v) w) ∙ row_of-rows_after (next_number w) (the_fact j v) w.rows j ∙ if_true (j == j) _ _ (eq-eqb j j refl) ∙ ap (λ z. row_then (next_number w) (the_fact j v) (after_fact (stands z) (the_fact j v)) z) at;
      tally = refl;
      standing = refl;
      beside = λ k other. stage_beside (the_fact j v) _ _ _ w k other ∙ ap (λ z. row_of z k) (leave_rows j u);
    }

begun_loose : (i j : ℕ) (v : Command) (u g : NodeState) → i < j → row_of u.rows j ≡ None → IsBegun j v u g → Loose i u g
begun_loose i j v u g l none B q = record {
  quiet = λ k m row x. elim (cases_eq k j) [
    | inl same ↦ ap (λ (z : Row). z.tally) (same_Some row B.row (sym x ∙ ap (row_of g.rows) same ∙ B.here)) ∙ B.tally
    | inr other ↦ q k m row (sym (B.beside k other) ∙ x)
  ];
  others = λ k away. elim (cases_eq k j) [
    | inl same ↦ inr (
      ap (λ z. standing_at u z) same ∙ ap (option_map (λ (r : Row). r.standing)) none,
      (v, ap (λ z. standing_at g z) same ∙ ap (option_map (λ (r : Row). r.standing)) B.here ∙ ap (λ z. Some z) B.standing),
    )
    | inr other ↦ inl (ap (option_map (λ (r : Row). r.standing)) (B.beside k other))
  ];
}

begins_loose : (i j : ℕ) (u : NodeState) → i < j → row_of u.rows j ≡ None → Loose i u (carry_out (Begin j) u)
unfolding carry_out enter
begins_loose i j u l none = by (free_command u j) refl
  where
    at : standing_at u j ≡ None
    at = ap (option_map (λ (r : Row). r.standing)) none

    by : (f : Option Command) → free_command u j ≡ f → Loose i u (option_map_or (λ e. enter_with j e (leave_round j u)) (entering_estimate j 1 None u) u)
    by None f =
        let e : entering_estimate j 1 None u ≡ None = rw (at, f) refl in
        subst (λ z. Loose i u (option_map_or (λ x. enter_with j x (leave_round j u)) z u)) (sym e) (loose_not i u)
    by (Some v) f =
        let e : entering_estimate j 1 None u ≡ Some (record { round = 1; stamp = 0; command = v }) = rw (at, f) refl in
        subst (λ z. Loose i u (option_map_or (λ x. enter_with j x (leave_round j u)) z u)) (sym e) (begun_loose i j v u _ l none (begun_row j v u none))

carries : (i : ℕ) (st : Standing) (t : Tally) (s u : NodeState) (d : Due) → s.suspects ≡ 0 → due u ≡ Some d → IsStill i st t s u → Loose i u (carry_out d u)
unfolding due
carries i st t s u d trusts x S q =
    let f : (j : ℕ) × (due_at u j ≡ Some d) = found u (open_instances u) d x in
    let place : place_of d ≡ f.0 = at_place u f.0 d (row_of u.rows f.0) refl f.1 in
    let later : i < place_of d = due_beyond i st t s u d x S in
    let above : i < f.0 = subst (λ z. i < z) place later in
    let b : (row_of u.rows f.0 ≡ None) × (d ≡ Begin f.0) = only_begins i f.0 u d (S.onward.suspects ∙ trusts) q above (row_of u.rows f.0) refl f.1 in
    subst (λ z. Loose i u (carry_out z u)) (sym b.1) (begins_loose i f.0 u above b.0) q

-- where nothing is due for i
settle_beside : (i p n : ℕ) (st : Standing) (t : Tally) (s : NodeState) → Sits i p n st t s → due_of_row s i t st ≡ None → Loose i s (settle s)
settle_beside i p n st t s S still q =
    (settle_keeps (λ u. IsStill i st t s u × Beside i s u) (λ u d x K. (still_goes i st t s u d x K.0, loose_on i s u (carry_out d u) (λ z. K.1) (carries i st t s u d S.trusts x K.0) q)) s (record { row = S.row; still = still; onward = onward_not s }, loose_not i s q)).1

-- what it does at once changes the row of i alone, and then it settles
pub then_settles : (i p n : ℕ) (st : Standing) (t : Tally) (s u : NodeState) → SameBeside i s u → Sits i p n st t u → due_of_row u i t st ≡ None → Loose i s (settle u)
then_settles i p n st t s u same S still = loose_on i s u (settle u) (same_loose i s u same) (settle_beside i p n st t u S still)

pub advance_loose : (i p n : ℕ) (o : OpenAt) (t : Tally) (s : NodeState) → Sits i p n (Open o) t s → i < 1048576 → 0 < o.round → Loose i s (node_step Advance s)
unfolding node_step
advance_loose i p n o t s S l r =
    let e : Estimated = estimated (o.round + 1) o in
    let u : NodeState = enter_with i e (leave_round i s) in
    let U : Sits i p n (Open (entered (o.round + 1) o)) no_votes u = (enters_with i p n (o.round + 1) e (Open o) t s S).0 in
    subst (λ z. Loose i s (settle z)) (sym (advances_to i p n o t s S l r))
    (then_settles i p n (Open (entered (o.round + 1) o)) no_votes s u (λ j other. stage_beside (Enter i e) _ _ _ (leave_round i s) j other ∙ ap (λ z. row_of z j) (leave_rows i s)) U (quiet_new i p n (entered (o.round + 1) o) u U))

tally_beside : (i : ℕ) (change : Tally → Tally) (s : NodeState) → SameBeside i s (change_tally i change s)
tally_beside i change s j other = by (row_of s.rows i) refl
  where
    by : (r : Option Row) → row_of s.rows i ≡ r → row_of (option_map_or (λ (row : Row). record s { rows = put_row (record row { tally = change row.tally }) s.rows }) r s).rows j ≡ row_of s.rows j
    by None e = refl
    by (Some row) e = row_of-put_row (record row { tally = change row.tally }) s.rows j ∙ if_false _ _ _ (ne_eqb row.instance j (λ x. other (sym x ∙ row_of_instance s.rows i row e)))

counted_beside : (i q : ℕ) (e : Estimated) (s : NodeState) → SameBeside i s (count_estimate i q e (pool_add e.command s))
unfolding count_estimate
counted_beside i q e s j other = tally_beside i (voted q e) (pool_add e.command s) j other ∙ ap (λ z. row_of z j) (pool_rows e.command s)

proposed_beside : (i r : ℕ) (v : Command) (s : NodeState) → SameBeside i s (propose i r v s)
unfolding propose
proposed_beside i r v s = stage_beside (Propose i r v) _ _ _ s

concluded_beside : (i : ℕ) (v : Command) (s : NodeState) → SameBeside i s (conclude i v s)
unfolding conclude
concluded_beside i v s = stage_beside (Decide i v) _ _ _ s

concluded_sits : (i p n : ℕ) (v : Command) (st : Standing) (t : Tally) (s : NodeState) → Sits i p n st t s → Sits i p n (Decided v) no_votes (conclude i v s)
unfolding conclude
concluded_sits i p n v st t s S =
    let u : NodeState = stage (Decide i v) s in
    sits_on i p n st t s _ _ no_votes S (stage_owe_onward (Decide i v) _ _ _ s) (subst (First i (Decided v) no_votes) (sym (owe_rows _ _ _ u)) (stage_here st t (Decide i v) s (Decided v) S.row refl))

-- a coordinator hears an estimate
pub estimate_loose : (i p n q : ℕ) (e : Estimated) (o : OpenAt) (t : Tally) (s : NodeState) → Sits i p n (Open o) t s → i < 1048576 → o.round ≡ e.round → coordinator_of e.round n ≡ p → t.acks ≡ 0 → t.nacks ≡ 0 → o.proposal ≡ None → (k : Option Command) → pick n (voted q e t) ≡ k → Loose i s (node_step (Hear (from_to q p (say.Estimate i e))) s)
unfolding node_step
estimate_loose i p n q e o t s S l r c a b has None k =
    let v : NodeState = count_estimate i q e (pool_add e.command s) in
    let V : Sits i p n (Open o) (voted q e t) v = (count_sits i p n q e (Open o) t (pool_add e.command s) (pool_sits i p n (Open o) t e.command s S)).0 in
    subst (λ z. Loose i s (settle z)) (sym (estimate_taken i p n q e o t s S l r c))
    (then_settles i p n (Open o) (voted q e t) s v (counted_beside i q e s) V (quiet i p n o (voted q e t) v V (ap (is_majority v) a ∙ nobody v) b (λ none. k)))
estimate_loose i p n q e o t s S l r c a b has (Some w) k =
    let v : NodeState = count_estimate i q e (pool_add e.command s) in
    let V : Sits i p n (Open o) (voted q e t) v = (count_sits i p n q e (Open o) t (pool_add e.command s) (pool_sits i p n (Open o) t e.command s S)).0 in
    let me : coordinator_of o.round v.nodes ≡ v.node = ap (coordinator_of o.round) V.nodes ∙ ap (λ z. coordinator_of z n) r ∙ c ∙ sym V.node in
    let offer : due_of_row v i (voted q e t) (Open o) ≡ Some (Offer i o.round w) =
    if_true _ _ _ (eq-eqb _ v.node me) ∙ ap (due_of_coordinator v i (voted q e t) o.round) has ∙ ap (option_map (λ z. Offer i o.round z)) (ap (λ z. pick z (voted q e t)) V.nodes ∙ k) in
    let next : settle v ≡ settle (propose i o.round w v) = settles_on v (Offer i o.round w) (due_first i o (voted q e t) v (Offer i o.round w) V.row l offer) ∙ ap settle (offered i o.round w v) in
    let g : NodeState = propose i o.round w v in
    let G : Sits i p n (Open (proposing w o)) (voted q e t) g = (proposes i p n o.round w o (voted q e t) v V refl).sits in
    subst (λ z. Loose i s z) (sym (ap settle (estimate_taken i p n q e o t s S l r c) ∙ next))
    (then_settles i p n (Open (proposing w o)) (voted q e t) s g (λ j other. proposed_beside i o.round w v j other ∙ counted_beside i q e s j other) G (quiet i p n (proposing w o) (voted q e t) g G (ap (is_majority g) a ∙ nobody g) b (λ none. absurd (none-some w (sym none)))))

adopted_beside : (i k r : ℕ) (v : Command) (s : NodeState) → SameBeside i s (acknowledge i r k (stage (Adopt i r v) (pool_add v s)))
adopted_beside i k r v s j other = stage_beside (Adopt i r v) _ _ _ (pool_add v s) j other ∙ ap (λ z. row_of z j) (pool_rows v s)

-- a node hears the proposal of its round
pub proposal_loose : (i p n k r : ℕ) (v : Command) (o : OpenAt) (t : Tally) (s : NodeState) → Sits i p n (Open o) t s → i < 1048576 → o.round ≡ r → o.stamp < r → coordinator_of r n ≡ k → t.acks ≡ 0 → t.nacks ≡ 0 → (o.proposal ≡ None → pick n t ≡ None) → Loose i s (node_step (Hear (from_to k p (say.Proposal i r v))) s)
unfolding node_step
proposal_loose i p n k r v o t s S l x m c a b lacks =
    let u : NodeState = pool_add v s in
    let U : Sits i p n (Open o) t u = pool_sits i p n (Open o) t v s S in
    let g : NodeState = acknowledge i r k (stage (Adopt i r v) u) in
    let G : Sits i p n (Open (adopting r v o)) t g = sits_on i p n (Open o) t u g _ t U (stage_owe_onward (Adopt i r v) _ _ _ u) (subst (First i (Open (adopting r v o)) t) (sym (owe_rows _ _ _ (stage (Adopt i r v) u))) (stage_here (Open o) t (Adopt i r v) u _ U.row refl)) in
    subst (λ z. Loose i s (settle z)) (sym (proposal_taken i p n k r v o t s S l x m c))
    (then_settles i p n (Open (adopting r v o)) t s g (adopted_beside i k r v s) G (quiet i p n (adopting r v o) t g G (ap (is_majority g) a ∙ nobody g) b lacks))

-- a node hears a decision
pub decision_loose : (i p n k : ℕ) (v : Command) (o : OpenAt) (t : Tally) (s : NodeState) → Sits i p n (Open o) t s → Loose i s (node_step (Hear (from_to k p (say.Decision i v))) s)
unfolding node_step heard_body
decision_loose i p n k v o t s S =
    subst (λ z. Loose i s (settle z)) (sym (heard_here p (say.Decision i v) k s S.node ∙ if_true _ _ _ (ap is_undecided (standing_first i (Open o) t s S.row))))
    (then_settles i p n (Decided v) no_votes s (conclude i v s) (concluded_beside i v s) (concluded_sits i p n v (Open o) t s S) refl)

ack_beside : (i q : ℕ) (s : NodeState) → SameBeside i s (count_ack i q s)
unfolding count_ack
ack_beside i q s = tally_beside i (acked q) s

-- a coordinator hears an acknowledgement of its round
pub ack_loose : (i p n q r : ℕ) (v : Command) (o : OpenAt) (t : Tally) (s : NodeState) → Sits i p n (Open o) t s → i < 1048576 → o.round ≡ r → coordinator_of r n ≡ p → o.proposal ≡ Some v → t.nacks ≡ 0 → (b : Bool) → is_enough n (with_member t.acks q) ≡ b → Loose i s (node_step (Hear (from_to q p (say.Ack i r))) s)
unfolding node_step
ack_loose i p n q r v o t s S l x c has none false e =
    let u : NodeState = count_ack i q s in
    let U : Sits i p n (Open o) (acked q t) u = (count_ack_sits i p n q (Open o) t s S).0 in
    subst (λ z. Loose i s (settle z)) (sym (ack_taken i p n q r v o t s S l x has))
    (then_settles i p n (Open o) (acked q t) s u (ack_beside i q s) U (quiet i p n o (acked q t) u U (enough_here n (with_member t.acks q) u U.nodes ∙ e) none (λ y. absurd (none-some v (sym y ∙ has)))))
ack_loose i p n q r v o t s S l x c has none true e =
    let u : NodeState = count_ack i q s in
    let U : Sits i p n (Open o) (acked q t) u = (count_ack_sits i p n q (Open o) t s S).0 in
    let me : coordinator_of o.round u.nodes ≡ u.node = ap (coordinator_of o.round) U.nodes ∙ ap (λ z. coordinator_of z n) x ∙ c ∙ sym U.node in
    let ends : due_of_row u i (acked q t) (Open o) ≡ Some (Conclude i v) = if_true _ _ _ (eq-eqb _ u.node me) ∙ ap (due_of_coordinator u i (acked q t) o.round) has ∙ if_true _ _ _ (enough_here n (with_member t.acks q) u U.nodes ∙ e) in
    let next : settle u ≡ settle (conclude i v u) = settles_on u (Conclude i v) (due_first i o (acked q t) u (Conclude i v) U.row l ends) ∙ ap settle (concluded i v u) in
    subst (λ z. Loose i s z) (sym (ap settle (ack_taken i p n q r v o t s S l x has) ∙ next))
    (then_settles i p n (Decided v) no_votes s (conclude i v u) (λ j other. concluded_beside i v u j other ∙ ack_beside i q s j other) (concluded_sits i p n v (Open o) (acked q t) u U) refl)

-- all of these are this command
abbrev pub AllAre : Command → List Command → Type 0
AllAre v [] = Unit {0}
AllAre v (d ∷ ds) = (d ≡ v) × AllAre v ds

-- the node has adopted a command for instance i in round r, and its pool has no other
pub record HasAdopted (i r : ℕ) (s : NodeState) : Type 0 where
  pub o : OpenAt
  pub stands : standing_at s i ≡ Some (Open o)
  pub round : o.round ≡ r
  pub stamp : o.stamp ≡ r
  pub pool : AllAre o.estimate s.pool

-- it has heard no votes for instance i, and nothing from which it would begin another
pub record Calm (i r : ℕ) (s : NodeState) : Type 0 where
  pub quiet : (row : Row) → row_of s.rows i ≡ Some row → row.tally ≡ no_votes
  pub pool : (s.pool ≡ []) ⊎ HasAdopted i r s

abbrev pub SameStandings : ℕ → NodeState → NodeState → Type 0
SameStandings i s u = (j : ℕ) → (j ≡ i → ⊥) → standing_at u j ≡ standing_at s j

-- the others stand on; and where the node is to keep calm, they stand as they did
abbrev pub Keeps : ℕ → ℕ → Type 0 → NodeState → NodeState → Type 0
Keeps i r calm s u = Loose i s u × (IsQuietAbove i s → calm → Calm i r s → Calm i r u × SameStandings i s u)

-- no node is to
abbrev pub restless : ℕ → Type 0
restless p = ⊥

pub keeps_not : (i r : ℕ) (calm : Type 0) (s : NodeState) → Keeps i r calm s s
keeps_not i r calm s = (loose_not i s, λ q f C. (C, λ j other. refl))

pub keeps_on : (i r : ℕ) (calm : Type 0) (s t u : NodeState) → Keeps i r calm s t → Keeps i r calm t u → Keeps i r calm s u
keeps_on i r calm s t u a b = (
  loose_on i s t u a.0 b.0,
  λ q f C.
      let x : Calm i r t × SameStandings i s t = a.1 q f C in
      let y : Calm i r u × SameStandings i t u = b.1 (a.0 q).quiet f x.0 in
      (y.0, λ j other. y.1 j other ∙ x.1 j other),
)

pub loose_keeps : (i r : ℕ) (s u : NodeState) → Loose i s u → Keeps i r ⊥ s u
loose_keeps i r s u k = (k, λ q f C. absurd f)

calm_still : (i r : ℕ) (s u : NodeState) → u.rows ≡ s.rows → u.pool ≡ s.pool → Calm i r s → Calm i r u
calm_still i r s u rows pool C = record {
  quiet = λ row e. C.quiet row (ap (λ z. row_of z i) (sym rows) ∙ e);
  pool = elim C.pool [
    | inl e ↦ inl (pool ∙ e)
    | inr A ↦ inr (record { o = A.o; stands = ap (λ z. option_map (λ (r2 : Row). r2.standing) (row_of z i)) rows ∙ A.stands; round = A.round; stamp = A.stamp; pool = subst (AllAre A.o.estimate) (sym pool) A.pool })
  ];
}

pub still_keeps : (i r : ℕ) (calm : Type 0) (s u : NodeState) → u.rows ≡ s.rows → u.pool ≡ s.pool → Keeps i r calm s u
still_keeps i r calm s u rows pool = (rows_loose i s u rows, λ q f C. (calm_still i r s u rows pool C, λ j other. ap (λ z. option_map (λ (r2 : Row). r2.standing) (row_of z j)) rows))

-- nothing is due where nothing is for i, and no other instance could be begun
nothing_due : (i p n : ℕ) (st : Standing) (t : Tally) (u : NodeState) → Sits i p n st t u → due_of_row u i t st ≡ None → IsQuietAbove i u → ((j : ℕ) → i < j → free_command u j ≡ None) → due u ≡ None
unfolding due
nothing_due i p n st t u S still q none = by (due u) refl
  where
    by : (o : Option Due) → due u ≡ o → due u ≡ None
    by None e = e
    by (Some d) e =
        let f : (j : ℕ) × (due_at u j ≡ Some d) = found u (open_instances u) d e in
        let place : place_of d ≡ f.0 = at_place u f.0 d (row_of u.rows f.0) refl f.1 in
        let later : i < place_of d = due_beyond i st t u u d e (record { row = S.row; still = still; onward = onward_not u }) in
        let above : i < f.0 = subst (λ z. i < z) place later in
        let b : (row_of u.rows f.0 ≡ None) × (d ≡ Begin f.0) = only_begins i f.0 u d S.trusts q above (row_of u.rows f.0) refl f.1 in
        let nothing : due_at u f.0 ≡ None = rw b.0 (if_false _ _ _ (ap is_some (none f.0 above))) in
        absurd (none-some d (sym nothing ∙ f.1))

free_of_none : (s : NodeState) (j : ℕ) → s.pool ≡ [] → free_command s j ≡ None
unfolding free_command
free_of_none s j e = ap (find (λ c. not (is_estimate_beside s j c))) e

find_none : (f : Command → Bool) (v : Command) (xs : List Command) → AllAre v xs → f v ≡ false → find f xs ≡ None
find_none f v [] a e = refl
find_none f v (x ∷ xs) a e = if_false (f x) (Some x) (find f xs) (ap f a.0 ∙ e) ∙ find_none f v xs a.1 e

-- the estimate of i is free for no other instance
pub estimate_beside : (i p n : ℕ) (o : OpenAt) (t : Tally) (s : NodeState) → Sits i p n (Open o) t s → i < 1048576 → (j : ℕ) → i < j → is_estimate_beside s j o.estimate ≡ true
estimate_beside i p n o t s S l j m =
    let x : (rest : List ℕ) × (open_instances s ≡ i ∷ rest) = open_first i o t s S.row l in
    let here : (not (i == j) && option_map_or (λ v. is_same_command v o.estimate) (estimate_of (standing_at s i)) false) ≡ true =
    ap (λ z. not z && option_map_or (λ v. is_same_command v o.estimate) (estimate_of (standing_at s i)) false) (ne_eqb i j (λ e. omega arith)) ∙ ap (λ z. option_map_or (λ v. is_same_command v o.estimate) (estimate_of z) false) (standing_first i (Open o) t s S.row) ∙ command_same o.estimate in
    ap (list_any (λ k. not (k == j) && option_map_or (λ v. is_same_command v o.estimate) (estimate_of (standing_at s k)) false)) x.1
    ∙ ap (λ z. z || list_any (λ k. not (k == j) && option_map_or (λ v. is_same_command v o.estimate) (estimate_of (standing_at s k)) false) x.0) here

pub free_of_one : (i p n : ℕ) (o : OpenAt) (t : Tally) (s : NodeState) → Sits i p n (Open o) t s → i < 1048576 → AllAre o.estimate s.pool → (j : ℕ) → i < j → free_command s j ≡ None
unfolding free_command
free_of_one i p n o t s S l a j m = find_none (λ c. not (is_estimate_beside s j c)) o.estimate s.pool a (ap not (estimate_beside i p n o t s S l j m))

-- then it stays as it is
pub settles_not : (i p n : ℕ) (st : Standing) (t : Tally) (s u : NodeState) → SameBeside i s u → Sits i p n st t u → due_of_row u i t st ≡ None → IsQuietAbove i s → ((j : ℕ) → i < j → free_command u j ≡ None) → settle u ≡ u
settles_not i p n st t s u same S still q none = settled_stays u (nothing_due i p n st t u S still (same_loose i s u same q).quiet none)

calm_after : (i r p n : ℕ) (st : Standing) (t : Tally) (s u : NodeState) → SameBeside i s u → Sits i p n st t u → due_of_row u i t st ≡ None → IsQuietAbove i s → ((j : ℕ) → i < j → free_command u j ≡ None) → Calm i r u → Calm i r (settle u) × SameStandings i s (settle u)
calm_after i r p n st t s u same S still q none C =
    subst (λ z. Calm i r z × SameStandings i s z) (sym (settles_not i p n st t s u same S still q none)) (C, λ j other. ap (option_map (λ (r2 : Row). r2.standing)) (same j other))

sits_quiet : (i p n : ℕ) (st : Standing) (t : Tally) (u : NodeState) → Sits i p n st t u → t ≡ no_votes → (row : Row) → row_of u.rows i ≡ Some row → row.tally ≡ no_votes
sits_quiet i p n st t u S e row x = ap (λ (z : Row). z.tally) (same_Some row _ (sym x ∙ first_row i st t u.rows S.row)) ∙ e

pub enter_pool : (i : ℕ) (e : Estimated) (s : NodeState) → (enter_with i e (leave_round i s)).pool ≡ s.pool
unfolding stage owe
enter_pool i e s = either (λ z. z.pool ≡ s.pool) _ s _ refl refl

pub advance_keeps : (i r : ℕ) (calm : Type 0) (p n : ℕ) (o : OpenAt) (t : Tally) (s : NodeState) → Sits i p n (Open o) t s → i < 1048576 → 0 < o.round → o.round < r → Keeps i r calm s (node_step Advance s)
unfolding node_step
advance_keeps i r calm p n o t s S l positive further = (
  advance_loose i p n o t s S l positive,
  λ q f C.
      let e : Estimated = estimated (o.round + 1) o in
      let u : NodeState = enter_with i e (leave_round i s) in
      let U : Sits i p n (Open (entered (o.round + 1) o)) no_votes u = (enters_with i p n (o.round + 1) e (Open o) t s S).0 in
      let pool : u.pool ≡ [] = enter_pool i e s ∙ empty C.pool in
      subst (λ z. Calm i r (settle z) × SameStandings i s (settle z)) (sym (advances_to i p n o t s S l positive))
      (calm_after i r p n (Open (entered (o.round + 1) o)) no_votes s u (λ j other. stage_beside (Enter i e) _ _ _ (leave_round i s) j other ∙ ap (λ z. row_of z j) (leave_rows i s)) U (quiet_new i p n (entered (o.round + 1) o) u U) q (λ j m. free_of_none u j pool)
      (record { quiet = sits_quiet i p n _ no_votes u U refl; pool = inl pool })),
)
  where
    empty : (s.pool ≡ []) ⊎ HasAdopted i r s → s.pool ≡ []
    empty (inl e) = e
    empty (inr A) =
        let x : o.round ≡ A.o.round = ap round_of (sym (standing_first i (Open o) t s S.row) ∙ A.stands) in
        let y : A.o.round ≡ r = A.round in
        absurd (omega arith)

pub estimate_keeps : (i r : ℕ) (calm : Type 0) (p n q : ℕ) → (calm → ⊥) → (e : Estimated) (o : OpenAt) (t : Tally) (s : NodeState) → Sits i p n (Open o) t s → i < 1048576 → o.round ≡ e.round → coordinator_of e.round n ≡ p → t.acks ≡ 0 → t.nacks ≡ 0 → o.proposal ≡ None → (k : Option Command) → pick n (voted q e t) ≡ k → Keeps i r calm s (node_step (Hear (from_to q p (say.Estimate i e))) s)
estimate_keeps i r calm p n q never e o t s S l x c a b has k y = (estimate_loose i p n q e o t s S l x c a b has k y, λ z f C. absurd (never f))

pub ack_keeps : (i : ℕ) (calm : Type 0) (p n q r : ℕ) → (calm → ⊥) → (v : Command) (o : OpenAt) (t : Tally) (s : NodeState) → Sits i p n (Open o) t s → i < 1048576 → o.round ≡ r → coordinator_of r n ≡ p → o.proposal ≡ Some v → t.nacks ≡ 0 → (b : Bool) → is_enough n (with_member t.acks q) ≡ b → Keeps i r calm s (node_step (Hear (from_to q p (say.Ack i r))) s)
ack_keeps i calm p n q r never v o t s S l x c has none b y = (ack_loose i p n q r v o t s S l x c has none b y, λ z f C. absurd (never f))

pool_added : (v : Command) (s : NodeState) → s.pool ≡ [] → AllAre v (pool_add v s).pool
unfolding pool_add
pool_added v s e = either (λ z. AllAre v z.pool) s (record s { pool = s.pool ++ v ∷ [] }) _ (subst (AllAre v) (sym e) tt) (subst (λ z. AllAre v (z ++ v ∷ [])) (sym e) (refl, tt))

adopt_pool : (i k r : ℕ) (v : Command) (s : NodeState) → (acknowledge i r k (stage (Adopt i r v) s)).pool ≡ s.pool
unfolding stage owe
adopt_pool i k r v s = refl

pub proposal_keeps : (i : ℕ) (calm : Type 0) (p n k r : ℕ) (v : Command) (o : OpenAt) (t : Tally) (s : NodeState) → Sits i p n (Open o) t s → i < 1048576 → o.round ≡ r → o.stamp < r → coordinator_of r n ≡ k → t.acks ≡ 0 → t.nacks ≡ 0 → (o.proposal ≡ None → pick n t ≡ None) → Keeps i r calm s (node_step (Hear (from_to k p (say.Proposal i r v))) s)
unfolding node_step
proposal_keeps i calm p n k r v o t s S l x m c a b lacks = (
  proposal_loose i p n k r v o t s S l x m c a b lacks,
  λ q f C.
      let u : NodeState = pool_add v s in
      let U : Sits i p n (Open o) t u = pool_sits i p n (Open o) t v s S in
      let g : NodeState = acknowledge i r k (stage (Adopt i r v) u) in
      let G : Sits i p n (Open (adopting r v o)) t g = sits_on i p n (Open o) t u g _ t U (stage_owe_onward (Adopt i r v) _ _ _ u) (subst (First i (Open (adopting r v o)) t) (sym (owe_rows _ _ _ (stage (Adopt i r v) u))) (stage_here (Open o) t (Adopt i r v) u _ U.row refl)) in
      let pool : AllAre v g.pool = subst (AllAre v) (sym (adopt_pool i k r v u)) (pool_added v s (empty C.pool)) in
      let none : t ≡ no_votes = C.quiet _ (first_row i (Open o) t s.rows S.row) in
      subst (λ z. Calm i r (settle z) × SameStandings i s (settle z)) (sym (proposal_taken i p n k r v o t s S l x m c))
      (calm_after i r p n (Open (adopting r v o)) t s g (adopted_beside i k r v s) G (quiet i p n (adopting r v o) t g G (ap (is_majority g) a ∙ nobody g) b lacks) q (λ j y. free_of_one i p n (adopting r v o) t g G l pool j y)
      (record { quiet = sits_quiet i p n _ t g G none; pool = inr (record { o = adopting r v o; stands = standing_first i _ t g G.row; round = x; stamp = refl; pool = pool }) })),
)
  where
    empty : (s.pool ≡ []) ⊎ HasAdopted i r s → s.pool ≡ []
    empty (inl e) = e
    empty (inr A) =
        let y : o.stamp ≡ A.o.stamp = ap stamp_of (sym (standing_first i (Open o) t s S.row) ∙ A.stands) in
        let z : A.o.stamp ≡ r = A.stamp in
        absurd (omega arith)

conclude_pool : (i : ℕ) (v : Command) (s : NodeState) → (conclude i v s).pool ≡ filter (λ c. not (is_same_request c.request v.request)) s.pool
unfolding conclude stage owe
conclude_pool i v s = refl

all_gone : (v : Command) (xs : List Command) → AllAre v xs → filter (λ (c : Command). not (is_same_request c.request v.request)) xs ≡ []
all_gone v [] a = refl
all_gone v (x ∷ xs) a = if_false (not (is_same_request x.request v.request)) (x ∷ filter (λ (c : Command). not (is_same_request c.request v.request)) xs) (filter (λ (c : Command). not (is_same_request c.request v.request)) xs) (ap (λ (z : Command). not (is_same_request z.request v.request)) a.0 ∙ ap not (same_request v.request)) ∙ all_gone v xs a.1

pub decision_keeps : (i r : ℕ) (calm : Type 0) (p n k : ℕ) (v : Command) (o : OpenAt) (t : Tally) (s : NodeState) → Sits i p n (Open o) t s → (o.stamp ≡ r → o.estimate ≡ v) → Keeps i r calm s (node_step (Hear (from_to k p (say.Decision i v))) s)
unfolding node_step heard_body
decision_keeps i r calm p n k v o t s S right = (
  decision_loose i p n k v o t s S,
  λ q f C.
      let u : NodeState = conclude i v s in
      let U : Sits i p n (Decided v) no_votes u = concluded_sits i p n v (Open o) t s S in
      let pool : u.pool ≡ [] = conclude_pool i v s ∙ emptied C.pool in
      subst (λ z. Calm i r (settle z) × SameStandings i s (settle z)) (sym (heard_here p (say.Decision i v) k s S.node ∙ if_true _ _ _ (ap is_undecided (standing_first i (Open o) t s S.row))))
      (calm_after i r p n (Decided v) no_votes s u (concluded_beside i v s) U refl q (λ j m. free_of_none u j pool) (record { quiet = sits_quiet i p n _ no_votes u U refl; pool = inl pool })),
)
  where
    emptied : (s.pool ≡ []) ⊎ HasAdopted i r s → filter (λ (c : Command). not (is_same_request c.request v.request)) s.pool ≡ []
    emptied (inl e) = ap (filter (λ (c : Command). not (is_same_request c.request v.request))) e
    emptied (inr A) =
        let same : Some (Open o) ≡ Some (Open A.o) = sym (standing_first i (Open o) t s S.row) ∙ A.stands in
        let stamp : o.stamp ≡ r = ap stamp_of same ∙ A.stamp in
        let is : A.o.estimate ≡ v = same_Some A.o.estimate v (ap estimate_of (sym same) ∙ ap (λ z. Some z) (right stamp)) in
        all_gone v s.pool (subst (λ z. AllAre z s.pool) is A.pool)

-- one that has decided i, and but owes something
pub decided_keeps : (i r : ℕ) (calm : Type 0) (p n : ℕ) (v : Command) (t : Tally) (s u : NodeState) → u.rows ≡ s.rows → u.pool ≡ s.pool → Sits i p n (Decided v) t u → Keeps i r calm s (settle u)
decided_keeps i r calm p n v t s u rows pool U = (
  then_settles i p n (Decided v) t s u (λ j other. ap (λ z. row_of z j) rows) U refl,
  λ q f C.
      calm_after i r p n (Decided v) t s u (λ j other. ap (λ z. row_of z j) rows) U refl q (λ j m. free_of_none u j (pool ∙ empty C.pool)) (calm_still i r s u rows pool C),
)
  where
    empty : (s.pool ≡ []) ⊎ HasAdopted i r s → s.pool ≡ []
    empty (inl e) = e
    empty (inr A) = absurd (false≢true (ap is_undecided (sym (standing_first i (Decided v) t u U.row) ∙ ap (λ z. option_map (λ (r2 : Row). r2.standing) (row_of z i)) rows ∙ A.stands)))
