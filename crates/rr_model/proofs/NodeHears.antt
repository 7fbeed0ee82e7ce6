-- What an input does at once, before anything that is due, stages only lawful facts of open instances.
use Rattle.std.proofs.Common.{◌≤◌, ◌++◌, ◌&&◌, not, Contains, le_refl, eq-eqb, ◌≡◌, ℕ, ◌+◌, ◌<◌, inl, inr, Bool, true, false, ◌==◌, ◌||◌, nat_lt, if◌then◌else◌, List, [], ◌∷◌, find, Option, None, Some, IsTrue, refl, ap, sym, ◌∙◌, subst, arith, eqb-true, ltb-true}
use Rattle.std.specs.Option.{option_map_or}
use Rattle.std.proofs.lemmas.Bool.{false≢true, and_parts, ltb-false}
use Rattle.std.proofs.lemmas.Option.{none-some, same_Some}
use Rattle.std.proofs.lemmas.List.Elements.{Contains-append_left, Contains-push}
use Rattle.rr_types.specs.declared.command.Command.{Command}
use Rattle.rr_types.specs.declared.command.RequestNo.{RequestNo}
use Rattle.rr_types.specs.declared.fact.Fact.{Fact}
use Rattle.rr_types.specs.declared.fact.Fact.TheVariants.{Adopt}
use Rattle.rr_types.specs.declared.promise.Standing.{Standing}
use Rattle.rr_types.specs.declared.promise.Standing.TheVariants.{Decided, Open}
use Rattle.rr_types.specs.declared.message.Body.{Body}
use Rattle.rr_types.specs.declared.message.Body.TheVariants.{Estimate, Proposal, Ack, Decision, Request, Nack, Beat, Suspects, Ask}
use Rattle.rr_types.specs.declared.message.Message.{Message}
use Rattle.rr_types.specs.Registry.{has_request}
use Rattle.rr_types.specs.Rounds.{Estimated, coordinator_of}
use Rattle.rr_types.specs.Nodes.{with_member}
use Rattle.rr_types.specs.Standings.{is_undecided, round_of, stamp_of}
use Rattle.rr_types.specs.Facts.{decision_of, after_fact}
use Rattle.rr_model.specs.Lawful.{Heard, Says, IsBacked}
use Rattle.rr_model.proofs.Permitted.{IsNamed, IsInRound}
use Rattle.rr_model.specs.NodeState.{NodeState, Row, Tally, row_of, standing_at, open_instances, is_open, first_undecided, decided_prefix, everyone, others, ◌▷◌}
use Rattle.rr_model.specs.NodeDetector.{all_ticked, late_nodes}
use Rattle.rr_model.specs.NodeParts.{owe, restate_all, stage, pool_add, backing_at, enter, conclude}
use Rattle.rr_types.specs.declared.input.Input.{Input}
use Rattle.rr_types.specs.declared.input.Input.TheVariants.{Submit, Suspect, Tick, Advance, Hear}
use Rattle.rr_model.specs.NodeStep.{is_waiting, wait_for, submitted, is_list_full, is_behind, ask, acknowledge, ticked_on, lowest_in_round, advanced, count_estimate, count_ack, count_nack, catch_up, take_proposal, take_estimate, answer, heard_body, taken_in}
use Rattle.rr_model.specs.NodeLaws.{hear_message, IsOfSubmitted, heard_input, IsInputOfNodes}
use Rattle.rr_model.proofs.Growth.{Within}
use Rattle.rr_model.proofs.NodeLowest.{IsLow, open_low, is_open_low, low_still, catch_up_low}
use Rattle.rr_model.proofs.NodeRows.{stands}
use Rattle.rr_model.proofs.NodeTallies.{IsHeardTally, votes_more}
use Rattle.rr_model.proofs.NodeBits.{member_of_with}
use Rattle.rr_model.proofs.NodeBacks.{IsUpTo, IsBackedOpen}
use Rattle.rr_model.proofs.NodeKnows.{Knows, Goes, Alike, alike_itself, alike_if, goes_on, goes_nowhere, goes_alike, goes_if, owe_alike, stage_goes, stage_stands, pool_add_goes, pool_add_standing, change_goes, low_here, knows_grows, backs, stood_backed}
use Rattle.rr_model.proofs.NodeEnters.{found_in, enter_goes, conclude_goes, restate_all_alike}

-- an instance in a round above 0 is in it
in_round : (s : Option Standing) (r : ℕ) → round_of s ≡ r → 0 < r → IsInRound s r
in_round None r e l = absurd (omega arith)
in_round (Some (Decided v)) r e l = absurd (omega arith)
in_round (Some (Open o)) r e l = e

in_round_undecided : (s : Option Standing) → 0 < round_of s → IsTrue (is_undecided s)
in_round_undecided None l = refl
in_round_undecided (Some (Decided v)) l = absurd (omega arith)
in_round_undecided (Some (Open o)) l = refl

-- the node has adopted in round r, which is the present one
record HasAdopted (s : Option Standing) (r : ℕ) : Type 0 where
  round : round_of s ≡ r
  stamp : r ≤ stamp_of s

after_adopt : (s : Option Standing) (i r : ℕ) (v : Command) → round_of s ≡ r → 0 < r → HasAdopted (after_fact s (Adopt i r v)) r
after_adopt None i r v e l = absurd (omega arith)
after_adopt (Some (Decided w)) i r v e l = absurd (omega arith)
after_adopt (Some (Open o)) i r v e l = record { round = e; stamp = le_refl r }

module _ (X : Type 0) (n p : ℕ) (h : Heard) where
  -- where the round heard is later, the instance enters it
  catch_up_goes : (facts : List Fact) (s : NodeState) (i r : ℕ) (v : Command) → IsNamed h v → Knows X n p facts h s → IsTrue (is_undecided (standing_at s i)) → IsLow s i → Goes X n p facts h s (catch_up i r v s)
  catch_up_goes facts s i r v o K u low = goes_if X n p facts h s (enter i r (Some v) s) s (nat_lt (round_of (standing_at s i)) r)
      (λ l. enter_goes X n p facts h s i r (Some v) K u (ltb-true _ _ l) (λ w e. subst (IsNamed h) (same_Some v w e) o) low)
      (λ l. goes_nowhere X n p facts h s K)

  adopt_goes : (facts : List Fact) (s : NodeState) (i r q : ℕ) (v : Command) → Says h.messages (coordinator_of r n) (Proposal i r v) → Knows X n p facts h s → round_of (standing_at s i) ≡ r → IsLow s i → Goes X n p facts h s (if nat_lt (stamp_of (standing_at s i)) r then stage (Adopt i r v) s else s)
  adopt_goes facts s i r q v said K e low = goes_if X n p facts h s (stage (Adopt i r v) s) s (nat_lt (stamp_of (standing_at s i)) r)
      (λ l. let below : stamp_of (standing_at s i) < r = ltb-true _ _ l in stage_goes X n p facts h s (Adopt i r v) K (in_round (standing_at s i) r e (omega arith), below, said) (low_here X n p facts h s i K low))
      (λ l. goes_nowhere X n p facts h s K)

  -- behind it the node has adopted in the round
  adopt_stands : (s : NodeState) (i r : ℕ) (v : Command) → round_of (standing_at s i) ≡ r → (b : Bool) → nat_lt (stamp_of (standing_at s i)) r ≡ b → HasAdopted (standing_at (if b then stage (Adopt i r v) s else s) i) r
  adopt_stands s i r v e true l =
      let below : stamp_of (standing_at s i) < r = ltb-true _ _ l in
      subst (λ z. HasAdopted z r) (sym (stage_stands (Adopt i r v) s i ∙ ap (λ z. if z then after_fact (standing_at s i) (Adopt i r v) else standing_at s i) (eq-eqb i i refl)))
      (after_adopt (standing_at s i) i r v e (omega arith))
  adopt_stands s i r v e false l = record { round = e; stamp = ltb-false _ _ l }

  ack_cases : (facts : List Fact) (t : NodeState) (i r : ℕ) (o : Option Standing) → Knows X n p facts h t → X → standing_at t i ≡ o → HasAdopted o r → 0 < r → (v : Command) × IsUpTo facts (backing_at (λ b. b.adopted) t i) (Adopt i r v)
  ack_cases facts t i r None K x e a l = let z : 0 ≡ r = a.round in absurd (omega arith)
  ack_cases facts t i r (Some (Decided w)) K x e a l = let z : 0 ≡ r = a.round in absurd (omega arith)
  ack_cases facts t i r (Some (Open o)) K x e a l =
      let B : IsBackedOpen facts i (backs t i) o = stood_backed X n p facts h t K x i (Open o) e in
      subst (λ z. (v : Command) × IsUpTo facts (backing_at (λ b. b.adopted) t i) (Adopt i z v)) a.round (B.adopted (let y : r ≤ o.stamp = a.stamp in let z : o.round ≡ r = a.round in omega arith))

  acknowledge_goes : (facts : List Fact) (t : NodeState) (i r q : ℕ) → Knows X n p facts h t → HasAdopted (standing_at t i) r → Goes X n p facts h t (acknowledge i r q t)
  acknowledge_goes facts t i r q K a = goes_alike X n p facts h t _ (owe_alike X p facts h (Ack i r) (Some (backing_at (λ b. b.adopted) t i)) (q ∷ []) t K.node (λ x l. ack_cases facts t i r (standing_at t i) K x refl a l) tt) K

  -- a proposal of the present round
  take_proposal_goes : (facts : List Fact) (s : NodeState) (i r q : ℕ) (v : Command) → Says h.messages (coordinator_of r n) (Proposal i r v) → Knows X n p facts h s → IsLow s i → Goes X n p facts h s (take_proposal i r v q s)
  unfolding take_proposal
  take_proposal_goes facts s i r q v said K low = goes_if X n p facts h s _ s (round_of (standing_at s i) == r)
      (λ e. goes_on X n p facts h s (if nat_lt (stamp_of (standing_at s i)) r then stage (Adopt i r v) s else s) _ (adopt_goes facts s i r q v said K (eqb-true _ _ e) low) (λ all A. acknowledge_goes all (if nat_lt (stamp_of (standing_at s i)) r then stage (Adopt i r v) s else s) i r q A (adopt_stands s i r v (eqb-true _ _ e) (nat_lt (stamp_of (standing_at s i)) r) refl)))
      (λ e. goes_nowhere X n p facts h s K)

  round_of_row : (s : NodeState) (i r : ℕ) (row : Row) → row_of s.rows i ≡ Some row → round_of (standing_at s i) ≡ r → round_of (Some row.standing) ≡ r
  round_of_row s i r row x e = ap (λ z. round_of (stands z)) (sym x) ∙ e

  -- an estimate of the present round
  take_estimate_goes : (facts : List Fact) (s : NodeState) (i q : ℕ) (e : Estimated) → q < n → Says h.messages q (Estimate i e) → Knows X n p facts h s → Goes X n p facts h s (take_estimate i q e s)
  unfolding count_estimate
  take_estimate_goes facts s i q e l said K = goes_if X n p facts h s (count_estimate i q e s) s (round_of (standing_at s i) == e.round)
      (λ x. change_goes X n p facts h s i _ K (λ row y. let H : IsHeardTally n h.messages i (round_of (Some row.standing)) row.tally = K.tallied i row y in record {
        votes = votes_more n h.messages i (round_of (Some row.standing)) 0 (record { sender = q; stamp = e.stamp; command = e.command }) row.tally.estimates (omega arith) l (subst (λ z. Says h.messages q (Estimate i (record { round = z; stamp = e.stamp; command = e.command }))) (sym (round_of_row s i e.round row y (eqb-true _ _ x))) said) H.votes;
        acks = H.acks;
      }))
      (λ x. goes_nowhere X n p facts h s K)

  ack_heard : (i r q : ℕ) (t : Tally) → Says h.messages q (Ack i r) → IsHeardTally n h.messages i r t → IsHeardTally n h.messages i r (record t { acks = with_member t.acks q })
  ack_heard i r q t said H = record {
    votes = H.votes;
    acks = λ j m. elim (member_of_with t.acks q j m) [
      | inl e ↦ subst (λ z. Says h.messages z (Ack i r)) (sym e) said
      | inr x ↦ H.acks j x
    ];
  }

  -- an acknowledgement of the present round
  count_ack_goes : (facts : List Fact) (s : NodeState) (i r q : ℕ) → Says h.messages q (Ack i r) → round_of (standing_at s i) ≡ r → Knows X n p facts h s → Goes X n p facts h s (count_ack i q s)
  unfolding count_ack
  count_ack_goes facts s i r q said e K = change_goes X n p facts h s i _ K (λ row y. ack_heard i (round_of (Some row.standing)) q row.tally (subst (λ z. Says h.messages q (Ack i z)) (sym (round_of_row s i r row y e)) said) (K.tallied i row y))

  count_nack_goes : (facts : List Fact) (s : NodeState) (i q : ℕ) → Knows X n p facts h s → Goes X n p facts h s (count_nack i q s)
  unfolding count_nack
  count_nack_goes facts s i q K = change_goes X n p facts h s i _ K (λ row y. let H : IsHeardTally n h.messages i (round_of (Some row.standing)) row.tally = K.tallied i row y in record { votes = H.votes; acks = H.acks })

  decided_stands : (s : Option Standing) (v : Command) → decision_of s ≡ Some v → s ≡ Some (Decided v)
  decided_stands None v e = absurd (none-some v e)
  decided_stands (Some (Decided w)) v e = ap (λ z. Some (Decided z)) (same_Some w v e)
  decided_stands (Some (Open o)) v e = absurd (none-some v e)

  answer_alike : (facts : List Fact) (s : NodeState) (i q : ℕ) → Knows X n p facts h s → Alike X p facts h s (answer i q s)
  answer_alike facts s i q K = at (decision_of (standing_at s i)) refl
    where
      at : (o : Option Command) → decision_of (standing_at s i) ≡ o → Alike X p facts h s (option_map_or (λ v. owe (Decision i v) (Some (backing_at (λ b. b.decided) s i)) (q ∷ []) s) o s)
      at None e = alike_itself X p facts h s
      at (Some v) e = owe_alike X p facts h (Decision i v) (Some (backing_at (λ b. b.decided) s i)) (q ∷ []) s K.node (λ x. stood_backed X n p facts h s K x i (Decided v) (decided_stands (standing_at s i) v e)) tt

  ask_goes : (facts : List Fact) (s : NodeState) (to : List ℕ) → Knows X n p facts h s → Goes X n p facts h s (ask to s)
  ask_goes facts s to K = goes_alike X n p facts h s _ (owe_alike X p facts h (Ask (first_undecided s)) None to s K.node (λ x. tt) tt) K

  if_open_goes : (facts : List Fact) (s t : NodeState) (i q : ℕ) → Knows X n p facts h s → (IsLow s i → Goes X n p facts h s t) → Goes X n p facts h s (if is_open s i then t else ask (q ∷ []) s)
  if_open_goes facts s t i q K g = goes_if X n p facts h s t (ask (q ∷ []) s) (is_open s i) (λ e. g (is_open_low s i e)) (λ e. ask_goes facts s (q ∷ []) K)

  still_undecided : (s : NodeState) (i : ℕ) (v : Command) → IsTrue (is_undecided (standing_at s i)) → IsTrue (is_undecided (standing_at (pool_add v s) i))
  still_undecided s i v u = subst (λ z. IsTrue (is_undecided z)) (sym (pool_add_standing v s i)) u

  still_low : (s : NodeState) (i : ℕ) (v : Command) → IsLow s i → IsLow (pool_add v s) i
  still_low s i v low = low_still s (pool_add v s) i (λ j m. pool_add_standing v s j) low

  estimate_goes : (facts : List Fact) (s : NodeState) (i q : ℕ) (e : Estimated) → q < n → Says h.messages q (Estimate i e) → IsNamed h e.command → Knows X n p facts h s → IsTrue (is_undecided (standing_at s i)) → IsLow s i → Goes X n p facts h s (s ▷ pool_add e.command ▷ catch_up i e.round e.command ▷ take_estimate i q e)
  estimate_goes facts s i q e l said o K u low =
      goes_on X n p facts h s (pool_add e.command s) _ (pool_add_goes X n p facts h s e.command o K) (λ all A.
      goes_on X n p all h (pool_add e.command s) (catch_up i e.round e.command (pool_add e.command s)) _ (catch_up_goes all (pool_add e.command s) i e.round e.command o A (still_undecided s i e.command u) (still_low s i e.command low)) (λ more B.
      take_estimate_goes more (catch_up i e.round e.command (pool_add e.command s)) i q e l said B))

  proposal_goes : (facts : List Fact) (s : NodeState) (i r q : ℕ) (v : Command) → Says h.messages (coordinator_of r n) (Proposal i r v) → IsNamed h v → Knows X n p facts h s → IsTrue (is_undecided (standing_at s i)) → IsLow s i → Goes X n p facts h s (s ▷ pool_add v ▷ catch_up i r v ▷ take_proposal i r v q)
  proposal_goes facts s i r q v said o K u low =
      goes_on X n p facts h s (pool_add v s) _ (pool_add_goes X n p facts h s v o K) (λ all A.
      goes_on X n p all h (pool_add v s) (catch_up i r v (pool_add v s)) _ (catch_up_goes all (pool_add v s) i r v o A (still_undecided s i v u) (still_low s i v low)) (λ more B.
      take_proposal_goes more (catch_up i r v (pool_add v s)) i r q v said B (catch_up_low i r v (pool_add v s) (still_low s i v low))))

  -- what a message of node q says, once it was heard
  body_goes : (facts : List Fact) (s : NodeState) (q : ℕ) (b : Body) → q < n → Says h.messages q b → Knows X n p facts h s → Goes X n p facts h s (heard_body q b s)
  unfolding heard_body
  body_goes facts s q (Estimate i e) l said K = goes_if X n p facts h s _ (answer i q s) (is_undecided (standing_at s i))
      (λ u. if_open_goes facts s _ i q K (λ low. goes_if X n p facts h s _ s (coordinator_of e.round s.nodes == s.node)
      (λ c. estimate_goes facts s i q e l said (inl (_, said.1, refl)) K u low)
      (λ c. goes_nowhere X n p facts h s K)))
      (λ u. goes_alike X n p facts h s _ (answer_alike facts s i q K) K)
  body_goes facts s q (Proposal i r v) l said K = goes_if X n p facts h s _ s (is_undecided (standing_at s i))
      (λ u. if_open_goes facts s _ i q K (λ low. goes_if X n p facts h s _ s (coordinator_of r s.nodes == q)
      (λ c. proposal_goes facts s i r q v (subst (λ z. Says h.messages z (Proposal i r v)) (sym (eqb-true _ _ c) ∙ ap (coordinator_of r) K.nodes) said) (inl (_, said.1, refl)) K u low)
      (λ c. goes_nowhere X n p facts h s K)))
      (λ u. goes_nowhere X n p facts h s K)
  body_goes facts s q (Ack i r) l said K = goes_if X n p facts h s (count_ack i q s) s _
      (λ c. count_ack_goes facts s i r q said (eqb-true _ _ (and_parts _ _ (and_parts _ _ c).1).0) K)
      (λ c. goes_nowhere X n p facts h s K)
  body_goes facts s q (Decision i v) l said K = goes_if X n p facts h s (conclude i v s) s (is_undecided (standing_at s i))
      (λ u. conclude_goes X n p facts h s i v K (u, inl (q, said)))
      (λ u. goes_nowhere X n p facts h s K)
  body_goes facts s q (Request c) l said K = pool_add_goes X n p facts h s c (inl (_, said.1, refl)) K
  body_goes facts s q (Nack i r) l said K = goes_if X n p facts h s (count_nack i q s) s _
      (λ c. count_nack_goes facts s i q K)
      (λ c. goes_nowhere X n p facts h s K)
  body_goes facts s q Beat l said K = goes_alike X n p facts h s _ (record { nodes = refl; node = refl; rows = refl; pool = refl; staged = refl; running = refl; marked = refl; marked_end = refl; owed = λ x o c. inl c }) K
  body_goes facts s q (Suspects set) l said K = goes_alike X n p facts h s _ (record { nodes = refl; node = refl; rows = refl; pool = refl; staged = refl; running = refl; marked = refl; marked_end = refl; owed = λ x o c. inl c }) K
  body_goes facts s q (Ask i) l said K = goes_alike X n p facts h s _ (answer_alike facts s i q K) K

  wait_alike : (facts : List Fact) (q : RequestNo) (s : NodeState) → Alike X p facts h s (wait_for q s)
  unfolding wait_for
  wait_alike facts q s = alike_if X p facts h s s (record s { waiting = s.waiting ++ q ∷ [] }) (is_waiting s q) (λ b. alike_itself X p facts h s) (λ b. record { nodes = refl; node = refl; rows = refl; pool = refl; staged = refl; running = refl; marked = refl; marked_end = refl; owed = λ x o c. inl c })

  -- a command that was submitted here
  submitted_goes : (facts : List Fact) (s : NodeState) (c : Command) → Contains h.commands c → Knows X n p facts h s → Goes X n p facts h s (submitted c s)
  unfolding submitted
  submitted_goes facts s c o K = goes_if X n p facts h s (wait_for c.request s) (wait_for c.request s ▷ pool_add c ▷ owe (Request c) None (others s)) (has_request (decided_prefix s) c.request || is_waiting s c.request)
      (λ e. goes_alike X n p facts h s _ (wait_alike facts c.request s) K)
      (λ e. goes_on X n p facts h s (wait_for c.request s) _ (goes_alike X n p facts h s _ (wait_alike facts c.request s) K) (λ all A.
      goes_on X n p all h (wait_for c.request s) (pool_add c (wait_for c.request s)) _ (pool_add_goes X n p all h (wait_for c.request s) c (inr o) A) (λ more B.
      goes_alike X n p more h (pool_add c (wait_for c.request s)) _ (owe_alike X p more h (Request c) None (others s) (pool_add c (wait_for c.request s)) B.node (λ x. tt) o) B)))

  -- a state of which nothing but the detector changed
  watched_goes : (facts : List Fact) (s t : NodeState) → Alike X p facts h s t → Knows X n p facts h s → Goes X n p facts h s t
  watched_goes facts s t a K = goes_alike X n p facts h s t a K

  owe_free_goes : (facts : List Fact) (s : NodeState) (b : Body) (to : List ℕ) → IsBacked b [] → IsOfSubmitted b h.commands → Knows X n p facts h s → Goes X n p facts h s (owe b None to s)
  owe_free_goes facts s b to x y K = goes_alike X n p facts h s _ (owe_alike X p facts h b None to s K.node (λ z. x) y) K

  ticked_goes : (facts : List Fact) (s : NodeState) → Knows X n p facts h s → Goes X n p facts h s (ticked_on s)
  unfolding ticked_on
  ticked_goes facts s K =
      let t : NodeState = record s { watches = all_ticked s.watches } in
      let u : NodeState = owe Beat None (others t) t in
      let v : NodeState = owe (Suspects (late_nodes t.node t.watches)) None (everyone t) u in
      let w : NodeState = restate_all (open_instances t) v in
      goes_on X n p facts h s t _ (watched_goes facts s t (record { nodes = refl; node = refl; rows = refl; pool = refl; staged = refl; running = refl; marked = refl; marked_end = refl; owed = λ x o c. inl c }) K) (λ f1 A.
      goes_on X n p f1 h t u _ (owe_free_goes f1 t Beat (others t) tt tt A) (λ f2 B.
      goes_on X n p f2 h u v _ (owe_free_goes f2 u (Suspects (late_nodes t.node t.watches)) (everyone t) tt tt B) (λ f3 C.
      goes_on X n p f3 h v w _ (watched_goes f3 v w (restate_all_alike X n p f3 h (open_instances t) v C) C) (λ f4 D.
      goes_if X n p f4 h w (ask (others w) w) w (not (is_list_full w) && is_behind w) (λ b. ask_goes f4 w (others w) D) (λ b. goes_nowhere X n p f4 h w D)))))

  in_some_round : (s : NodeState) (is : List ℕ) (i : ℕ) → find (λ j. nat_lt 0 (round_of (standing_at s j))) is ≡ Some i → 0 < round_of (standing_at s i)
  in_some_round s [] i e = absurd (none-some i e)
  in_some_round s (j ∷ is) i e = at (in_some_round s is i) (nat_lt 0 (round_of (standing_at s j))) refl e
    where
      at : (find (λ j. nat_lt 0 (round_of (standing_at s j))) is ≡ Some i → 0 < round_of (standing_at s i)) → (b : Bool) → nat_lt 0 (round_of (standing_at s j)) ≡ b → (if b then Some j else find (λ j. nat_lt 0 (round_of (standing_at s j))) is) ≡ Some i → 0 < round_of (standing_at s i)
      at ih true l x = subst (λ z. 0 < round_of (standing_at s z)) (same_Some j i x) (ltb-true _ _ l)
      at ih false l x = ih x

  -- the lowest open instance with a round moves on
  advanced_goes : (facts : List Fact) (s : NodeState) → Knows X n p facts h s → Goes X n p facts h s (advanced s)
  unfolding advanced
  advanced_goes facts s K = at (lowest_in_round s) refl
    where
      at : (o : Option ℕ) → lowest_in_round s ≡ o → Goes X n p facts h s (option_map_or (λ i. enter i (round_of (standing_at s i) + 1) None s) o s)
      at None e = goes_nowhere X n p facts h s K
      at (Some i) e = enter_goes X n p facts h s i (round_of (standing_at s i) + 1) None K (in_round_undecided (standing_at s i) (in_some_round s (open_instances s) i e)) (omega arith) (λ v x. absurd (none-some v x)) (open_low s i (found_in (λ j. nat_lt 0 (round_of (standing_at s j))) (open_instances s) i e))

-- what was heard before an input, and the input
heard_grows : (p : ℕ) (h : Heard) (input : Input Message) → Within h (heard_input p h input)
heard_grows p h (Submit c) = record { messages = λ m x. x; commands = λ d x. Contains-append_left h.commands (c ∷ []) d x }
heard_grows p h (Hear m) = at (m.to == p)
  where
    at : (b : Bool) → Within h (if b then hear_message h m else h)
    at true = record { messages = λ k x. Contains-append_left h.messages (m ∷ []) k x; commands = λ d x. x }
    at false = record { messages = λ k x. x; commands = λ d x. x }
heard_grows p h input = record { messages = λ m x. x; commands = λ d x. x }

said_now : (h : Heard) (m : Message) → Says (hear_message h m).messages m.from m.body
said_now h m = (m.to, Contains-push h.messages m)

-- what an input does at once is lawful
taken_goes : (X : Type 0) (n p : ℕ) (facts : List Fact) (h : Heard) (s : NodeState) (input : Input Message) → IsInputOfNodes n input → Knows X n p facts (heard_input p h input) s → Goes X n p facts (heard_input p h input) s (taken_in input s)
unfolding taken_in
taken_goes X n p facts h s (Submit c) x K = submitted_goes X n p (heard_input p h (Submit c)) facts s c (Contains-push h.commands c) K
taken_goes X n p facts h s (Suspect set) x K = goes_alike X n p facts h s _ (record { nodes = refl; node = refl; rows = refl; pool = refl; staged = refl; running = refl; marked = refl; marked_end = refl; owed = λ x o c. inl c }) K
taken_goes X n p facts h s Tick x K = ticked_goes X n p h facts s K
taken_goes X n p facts h s Advance x K = advanced_goes X n p h facts s K
taken_goes X n p facts h s (Hear m) x K = at (m.to == p) (m.to == s.node) (ap (λ z. m.to == z) (sym K.node)) K
  where
    at : (a b : Bool) → a ≡ b → Knows X n p facts (if a then hear_message h m else h) s → Goes X n p facts (if a then hear_message h m else h) s (if b then heard_body m.from m.body s else s)
    at true true e A = body_goes X n p (hear_message h m) facts s m.from m.body x (said_now h m) A
    at true false e A = absurd (false≢true (sym e))
    at false true e A = absurd (false≢true e)
    at false false e A = goes_nowhere X n p facts h s A

-- and so from what it knew before the input
pub input_goes : (X : Type 0) (n p : ℕ) (facts : List Fact) (h : Heard) (s : NodeState) (input : Input Message) → IsInputOfNodes n input → Knows X n p facts h s → Goes X n p facts (heard_input p h input) s (taken_in input s)
input_goes X n p facts h s input x K = taken_goes X n p facts h s input x (knows_grows X n p facts h (heard_input p h input) s (heard_grows p h input) K)
