-- What a node does of its own accord, as long as something is due, stages only lawful facts of open instances.
use Rattle.std.proofs.Common.{◌≡◌, ℕ, ◌+◌, ◌≤◌, ◌<◌, Contains, zero, suc, Bool, true, false, ◌==◌, ◌&&◌, nat_lt, if◌then◌else◌, List, [], ◌∷◌, length, filter, is_some, Option, None, Some, option_map, inr, refl, ap, sym, ◌∙◌, subst, arith, eqb-true}
use Rattle.std.specs.Option.{option_map_or}
use Rattle.std.specs.List.{range_with_len}
use Rattle.std.proofs.lemmas.Bool.{leb-true}
use Rattle.std.proofs.lemmas.Option.{none-some, same_Some}
use Rattle.rr_types.specs.declared.command.Command.{Command}
use Rattle.rr_types.specs.declared.fact.Fact.{Fact}
use Rattle.rr_types.specs.declared.fact.Fact.TheVariants.{Propose, Decide}
use Rattle.rr_types.specs.declared.promise.Standing.{Standing}
use Rattle.rr_types.specs.declared.promise.Standing.TheVariants.{Decided, Open}
use Rattle.rr_types.specs.declared.message.Body.TheVariants as say
use Rattle.rr_types.specs.Rounds.{OpenAt, coordinator_of, majority_of}
use Rattle.rr_types.specs.Nodes.{has_member}
use Rattle.rr_types.specs.Standings.{is_undecided, round_of}
use Rattle.rr_model.specs.Lawful.{Heard, Says, HasMajority, IsOfLargestStamp}
use Rattle.rr_model.proofs.Permitted.{IsPermittedAt}
use Rattle.rr_model.specs.NodeState.{NodeState, Row, row_of, standing_at, open_instances}
use Rattle.rr_types.specs.Nodes.{joined}
use Rattle.rr_model.specs.NodeParts.{free_command}
use Rattle.rr_model.specs.NodeDue.{Due, Begin, Offer, Conclude, MoveOn, pick, is_majority, due_of_coordinator, due_of_row, due_at, first_due, due, carry_out, settle_within, settle}
use Rattle.rr_model.proofs.NodeLowest.{IsLow, open_low}
use Rattle.rr_model.proofs.NodeRows.{stands}
use Rattle.rr_model.proofs.NodeTallies.{IsHeardTally, pick_largest, acks_majority}
use Rattle.rr_model.proofs.NodeKnows.{Knows, Goes, goes_on, goes_nowhere}
use Rattle.rr_model.proofs.NodeEnters.{enter_goes, propose_goes, conclude_goes}

module _ (X : Type 0) (n p : ℕ) (facts : List Fact) (h : Heard) (s : NodeState) (K : Knows X n p facts h s) where
  begin_goes : (i : ℕ) → IsLow s i → standing_at s i ≡ None → Goes X n p facts h s (carry_out (Begin i) s)
  unfolding carry_out
  begin_goes i low e = enter_goes X n p facts h s i 1 None K (ap is_undecided e) (let z : round_of (standing_at s i) ≡ 0 = ap round_of e in omega arith) (λ v x. absurd (none-some v x)) low

  move_goes : (i : ℕ) (o : OpenAt) → IsLow s i → standing_at s i ≡ Some (Open o) → Goes X n p facts h s (carry_out (MoveOn i) s)
  unfolding carry_out
  move_goes i o low e = enter_goes X n p facts h s i (round_of (standing_at s i) + 1) None K (ap is_undecided e) (omega arith) (λ v x. absurd (none-some v x)) low

  offer_goes : (i : ℕ) (row : Row) (o : OpenAt) (v : Command) → IsLow s i → row_of s.rows i ≡ Some row → row.standing ≡ Open o → o.proposal ≡ None → coordinator_of o.round s.nodes ≡ s.node → pick s.nodes row.tally ≡ Some v → Goes X n p facts h s (carry_out (Offer i o.round v) s)
  unfolding carry_out
  offer_goes i row o v low e x none c k =
      let at : standing_at s i ≡ Some (Open o) = ap stands e ∙ ap Some x in
      let H : IsHeardTally n h.messages i o.round row.tally = subst (λ z. IsHeardTally n h.messages i (round_of (Some z)) row.tally) x (K.tallied i row e) in
      let me : p ≡ coordinator_of o.round n = sym K.node ∙ sym c ∙ ap (coordinator_of o.round) K.nodes in
      let best : IsOfLargestStamp n i o.round h.messages v = pick_largest n h.messages i o.round row.tally v H (ap (λ z. pick z row.tally) (sym K.nodes) ∙ k) in
      propose_goes X n p facts h s i o.round v K (subst (λ z. IsPermittedAt n p z h (Propose i o.round v)) (sym at) (refl, me, none, best)) low

  decide_goes : (i : ℕ) (row : Row) (o : OpenAt) (v : Command) → row_of s.rows i ≡ Some row → row.standing ≡ Open o → o.proposal ≡ Some v → is_majority s row.tally.acks ≡ true → Goes X n p facts h s (carry_out (Conclude i v) s)
  unfolding carry_out
  decide_goes i row o v e x some m =
      let at : standing_at s i ≡ Some (Open o) = ap stands e ∙ ap Some x in
      let H : IsHeardTally n h.messages i o.round row.tally = subst (λ z. IsHeardTally n h.messages i (round_of (Some z)) row.tally) x (K.tallied i row e) in
      let l : majority_of s.nodes ≤ length (filter (λ q. has_member row.tally.acks q) (range_with_len 0 s.nodes)) = leb-true _ _ m in
      let acks : HasMajority n (λ q. Says h.messages q (say.Ack i o.round)) = acks_majority n h.messages i o.round row.tally H (subst (λ z. majority_of z ≤ length (filter (has_member row.tally.acks) (range_with_len 0 z))) K.nodes l) in
      conclude_goes X n p facts h s i v K (subst (λ z. IsPermittedAt n p z h (Decide i v)) (sym at) (refl, inr (some, acks)))

  -- of a round that it coordinates
  coordinator_goes : (i : ℕ) (row : Row) (o : OpenAt) (d : Due) → IsLow s i → row_of s.rows i ≡ Some row → row.standing ≡ Open o → coordinator_of o.round s.nodes ≡ s.node → (v : Option Command) → o.proposal ≡ v → due_of_coordinator s i row.tally o.round v ≡ Some d → Goes X n p facts h s (carry_out d s)
  coordinator_goes i row o d low e x c None q w = at (pick s.nodes row.tally) refl w
    where
      at : (k : Option Command) → pick s.nodes row.tally ≡ k → option_map (λ v. Offer i o.round v) k ≡ Some d → Goes X n p facts h s (carry_out d s)
      at None k y = absurd (none-some d y)
      at (Some v) k y = subst (λ z. Goes X n p facts h s (carry_out z s)) (same_Some _ d y) (offer_goes i row o v low e x q c k)
  coordinator_goes i row o d low e x c (Some v) q w = at (is_majority s row.tally.acks) refl (is_majority s (joined row.tally.acks row.tally.nacks) && nat_lt o.round 2147483647) w
    where
      at : (b : Bool) → is_majority s row.tally.acks ≡ b → (a : Bool) → (if b then Some (Conclude i v) else (if a then Some (MoveOn i) else None)) ≡ Some d → Goes X n p facts h s (carry_out d s)
      at true m a y = subst (λ z. Goes X n p facts h s (carry_out z s)) (same_Some _ d y) (decide_goes i row o v e x q m)
      at false m true y = subst (λ z. Goes X n p facts h s (carry_out z s)) (same_Some _ d y) (move_goes i o low (ap stands e ∙ ap Some x))
      at false m false y = absurd (none-some d y)

  row_goes : (i : ℕ) (row : Row) (d : Due) → IsLow s i → row_of s.rows i ≡ Some row → (t : Standing) → row.standing ≡ t → due_of_row s i row.tally t ≡ Some d → Goes X n p facts h s (carry_out d s)
  row_goes i row d low e (Decided v) x w = absurd (none-some d w)
  row_goes i row d low e (Open o) x w = at (coordinator_of o.round s.nodes == s.node) refl (has_member s.suspects (coordinator_of o.round s.nodes) && nat_lt o.round 2147483647) w
    where
      at : (b : Bool) → (coordinator_of o.round s.nodes == s.node) ≡ b → (a : Bool) → (if b then due_of_coordinator s i row.tally o.round o.proposal else (if a then Some (MoveOn i) else None)) ≡ Some d → Goes X n p facts h s (carry_out d s)
      at true c a y = coordinator_goes i row o d low e x (eqb-true _ _ c) o.proposal refl y
      at false c true y = subst (λ z. Goes X n p facts h s (carry_out z s)) (same_Some _ d y) (move_goes i o low (ap stands e ∙ ap Some x))
      at false c false y = absurd (none-some d y)

  -- what is due for an instance
  at_goes : (i : ℕ) (d : Due) (o : Option Row) → IsLow s i → row_of s.rows i ≡ o → due_at s i ≡ Some d → Goes X n p facts h s (carry_out d s)
  at_goes i d None low e x = at (is_some (free_command s i)) (rw e at x)
    where
      at : (b : Bool) → (if b then Some (Begin i) else None) ≡ Some d → Goes X n p facts h s (carry_out d s)
      at true y = subst (λ z. Goes X n p facts h s (carry_out z s)) (same_Some _ d y) (begin_goes i low (ap stands e))
      at false y = absurd (none-some d y)
  at_goes i d (Some row) low e x = row_goes i row d low e row.standing refl (rw e at x)

  first_goes : (is : List ℕ) (d : Due) → ((j : ℕ) → Contains is j → IsLow s j) → first_due s is ≡ Some d → Goes X n p facts h s (carry_out d s)
  first_goes [] d low x = absurd (none-some d x)
  first_goes (i ∷ is) d low x = at (first_goes is d (λ j c. low j (suc c.0, (let l : c.0 < length is = c.1 in omega arith), c.2))) (due_at s i) refl x
    where
      at : (first_due s is ≡ Some d → Goes X n p facts h s (carry_out d s)) → (o : Option Due) → due_at s i ≡ o → option_map_or Some o (first_due s is) ≡ Some d → Goes X n p facts h s (carry_out d s)
      at ih None e y = ih y
      at ih (Some c) e y = at_goes i d (row_of s.rows i) (low i (0, omega arith, refl)) refl (e ∙ y)

  -- what is due is lawful
  due_goes : (d : Due) → due s ≡ Some d → Goes X n p facts h s (carry_out d s)
  unfolding due
  due_goes d x = first_goes (open_instances s) d (open_low s) x

turn_goes : (X : Type 0) (n p : ℕ) (facts : List Fact) (h : Heard) (s : NodeState) (f : NodeState → NodeState) → Knows X n p facts h s → ((t : NodeState) (all : List Fact) → Knows X n p all h t → Goes X n p all h t (f t)) → (o : Option Due) → due s ≡ o → Goes X n p facts h s (option_map_or (λ d. f (carry_out d s)) o s)
turn_goes X n p facts h s f K rest None e = goes_nowhere X n p facts h s K
turn_goes X n p facts h s f K rest (Some d) e = goes_on X n p facts h s (carry_out d s) (f (carry_out d s)) (due_goes X n p facts h s K d e) (λ all A. rest (carry_out d s) all A)

within_goes : (turns : ℕ) (X : Type 0) (n p : ℕ) (facts : List Fact) (h : Heard) (s : NodeState) → Knows X n p facts h s → Goes X n p facts h s (settle_within turns s)
unfolding settle_within
within_goes zero X n p facts h s K = goes_nowhere X n p facts h s K
within_goes (suc turns) X n p facts h s K = turn_goes X n p facts h s (settle_within turns) K (λ t all A. within_goes turns X n p all h t A) (due s) refl

-- what a node does of its own accord is lawful
pub settle_goes : (X : Type 0) (n p : ℕ) (facts : List Fact) (h : Heard) (s : NodeState) → Knows X n p facts h s → Goes X n p facts h s (settle s)
unfolding settle
settle_goes X n p facts h s K = within_goes _ X n p facts h s K
