-- Each input to a node, with what is due behind it, leaves lawful facts and the promise.
use Rattle.std.proofs.Common.{◌≡◌, ◌+◌, ◌<◌, ℕ, arith, Bool, true, false, cond, ◌&&◌, ◌||◌, not, ◌==◌, eqb, nat_lt, List, [], ◌∷◌, ap, sym, ◌∙◌, refl, Option, Some, None, option_map, if◌then◌else◌}
use Rattle.std.specs.Prelude.{find}
use Rattle.std.specs.Option.{option_map_or}
use Rattle.std.proofs.lemmas.Bool.{eqb-true, ltb-true}
use Rattle.rr_types.specs.declared.command.Command.{Command}
use Rattle.rr_types.specs.declared.message.Message.{Message}
use Rattle.rr_types.specs.declared.message.Body.{Body}
use Rattle.rr_types.specs.declared.message.Body.TheVariants.{Estimate, Proposal, Ack, Decision, Request, Nack, Beat, Suspects, Ask}
use Rattle.rr_types.specs.declared.fact.Fact.TheVariants.{Adopt}
use Rattle.rr_types.specs.declared.promise.Standing.{Standing}
use Rattle.rr_types.specs.declared.promise.Standing.TheVariants.{Decided, Open}
use Rattle.rr_types.specs.Registry.{has_request}
use Rattle.rr_types.specs.Rounds.{Estimated, coordinator_of}
use Rattle.rr_types.specs.Nodes.{with_member}
use Rattle.rr_types.specs.Standings.{is_undecided, round_of, stamp_of}
use Rattle.rr_types.specs.Facts.{decision_of}
use Rattle.rr_model.specs.NodeState.{NodeState, Row, Tally, row_of, put_row, standing_at, open_instances, is_open, first_undecided, everyone, others, decided_prefix}
use Rattle.rr_model.specs.NodeDetector.{all_ticked, late_nodes}
use Rattle.rr_model.specs.NodeParts.{owe, pool_add, stage, backing_at, enter, restate_all, conclude}
use Rattle.rr_model.specs.NodeDue.{settle}
use Rattle.rr_model.specs.NodeStep.{is_waiting, wait_for, submitted, is_list_full, is_behind, ask, ticked_on, lowest_in_round, advanced, change_tally, count_estimate, count_ack, count_nack, with_vote, catch_up, acknowledge, take_proposal, take_estimate, has_proposed, answer, heard_body, heard}
use Rattle.rr_core.specs.Lawful.{IsLawful}
use Rattle.rr_state.proofs.SameLemmas.{both}
use Rattle.rr_core.proofs.DueLaws.{settle_step}
use Rattle.rr_core.proofs.PartLaws.{conclude_step, enter_step, restate_all_quiet}
use Rattle.rr_core.proofs.QuietLaws.{IsQuiet, IsStep, step_none, step_then, quiet_none, quiet_then, quiet_step, owe_quiet, pool_quiet, wait_quiet, stage_step, standing_of_rows, put-standing, row_of-instance}

pub settle_lawful : (s : NodeState) → IsLawful s → IsLawful (settle s)
settle_lawful s h = (settle_step s).lawful h

pub settle_marked : (s : NodeState) → (settle s).marked ≡ s.marked
settle_marked s = (settle_step s).marked

-- a submit
submitted_quiet : (c : Command) (s : NodeState) → IsQuiet s (submitted c s)
unfolding submitted
submitted_quiet c s = by (has_request (decided_prefix s) c.request || is_waiting s c.request)
  where
    by : (b : Bool) → IsQuiet s (if b then wait_for c.request s else owe (Request c) None (others s) (pool_add c (wait_for c.request s)))
    by true = wait_quiet c.request s
    by false = quiet_then s (wait_for c.request s) _ (wait_quiet c.request s) (quiet_then (wait_for c.request s) (pool_add c (wait_for c.request s)) _ (pool_quiet c (wait_for c.request s)) (owe_quiet (Request c) None (others s) (pool_add c (wait_for c.request s))))

pub submitted_lawful : (c : Command) (s : NodeState) → IsLawful s → IsLawful (submitted c s)
submitted_lawful c s h = (quiet_step s _ (submitted_quiet c s)).lawful h

pub submitted_marked : (c : Command) (s : NodeState) → (submitted c s).marked ≡ s.marked
submitted_marked c s = (submitted_quiet c s).marked

-- a tick
ask_quiet : (to : List ℕ) (s : NodeState) → IsQuiet s (ask to s)
ask_quiet to s = owe_quiet (Ask (first_undecided s)) None to s

asked_quiet : (s : NodeState) → IsQuiet s (if not (is_list_full s) && is_behind s then ask (others s) s else s)
asked_quiet s = by (not (is_list_full s) && is_behind s)
  where
    by : (b : Bool) → IsQuiet s (if b then ask (others s) s else s)
    by true = ask_quiet (others s) s
    by false = quiet_none s

abbrev ticking : NodeState → NodeState
ticking s = record s { watches = all_ticked s.watches }

ticking_quiet : (s : NodeState) → IsQuiet s (ticking s)
ticking_quiet s = record { nodes = refl; node = refl; stands = λ i. refl; marked = refl; ends = refl; running = refl; staged = refl }

ticked_quiet : (s : NodeState) → IsQuiet s (ticked_on s)
unfolding ticked_on
ticked_quiet s =
    let t = ticking s in
    let u = owe Beat None (others t) t in
    let v = owe (Suspects (late_nodes t.node t.watches)) None (everyone t) u in
    let w = restate_all (open_instances t) v in
    quiet_then s t _ (ticking_quiet s) (quiet_then t u _ (owe_quiet Beat None (others t) t) (quiet_then u v _ (owe_quiet (Suspects (late_nodes t.node t.watches)) None (everyone t) u) (quiet_then v w _ (restate_all_quiet (open_instances t) v) (asked_quiet w))))

pub ticked_lawful : (s : NodeState) → IsLawful s → IsLawful (ticked_on s)
ticked_lawful s h = (quiet_step s _ (ticked_quiet s)).lawful h

pub ticked_marked : (s : NodeState) → (ticked_on s).marked ≡ s.marked
ticked_marked s = (ticked_quiet s).marked

-- an instance that has a round hasn't decided
round_undecided : (st : Option Standing) → 0 < round_of st → is_undecided st ≡ true
round_undecided None l = refl
round_undecided (Some (Decided v)) l = absurd (omega arith)
round_undecided (Some (Open o)) l = refl

found-passes : (p : ℕ → Bool) (xs : List ℕ) (i : ℕ) → find p xs ≡ Some i → p i ≡ true
found-passes p [] i e = absurd (cc)
found-passes p (x ∷ xs) i e = by (found-passes p xs i) (p x) refl e
  where
    by : (find p xs ≡ Some i → p i ≡ true) → (b : Bool) → p x ≡ b → cond b (Some x) (find p xs) ≡ Some i → p i ≡ true
    by more true h e = let same : x ≡ i = cc in ap p (sym same) ∙ h
    by more false h e = more e

-- an advance
advanced_step : (s : NodeState) → IsStep s (advanced s)
unfolding advanced
advanced_step s = by (lowest_in_round s) refl
  where
    by : (o : Option ℕ) → lowest_in_round s ≡ o → IsStep s (option_map_or (λ i. enter i (round_of (standing_at s i) + 1) None s) o s)
    by None h = step_none s
    by (Some i) h =
        let there : 0 < round_of (standing_at s i) = ltb-true _ _ (found-passes (λ j. nat_lt 0 (round_of (standing_at s j))) (open_instances s) i h) in
        enter_step i (round_of (standing_at s i) + 1) None s (round_undecided (standing_at s i) there) (omega arith)

pub advanced_lawful : (s : NodeState) → IsLawful s → IsLawful (advanced s)
advanced_lawful s h = (advanced_step s).lawful h

pub advanced_marked : (s : NodeState) → (advanced s).marked ≡ s.marked
advanced_marked s = (advanced_step s).marked

-- a changed tally
tally_quiet : (i : ℕ) (change : Tally → Tally) (s : NodeState) → IsQuiet s (change_tally i change s)
tally_quiet i change s = by (row_of s.rows i) refl
  where
    stays : (row : Row) → row_of s.rows i ≡ Some row → (j : ℕ) (b : Bool) → eqb i j ≡ b → cond b (Some row.standing) (standing_of_rows s.rows j) ≡ standing_of_rows s.rows j
    stays row h j true e = ap (option_map (λ (r : Row). r.standing)) (sym h) ∙ ap (standing_of_rows s.rows) (eqb-true _ _ e)
    stays row h j false e = refl

    by : (o : Option Row) → row_of s.rows i ≡ o → IsQuiet s (option_map_or (λ (row : Row). record s { rows = put_row (record row { tally = change row.tally }) s.rows }) o s)
    by None h = quiet_none s
    by (Some row) h = record {
      nodes = refl;
      node = refl;
      marked = refl;
      ends = refl;
      running = refl;
      staged = refl;
      stands = λ j. put-standing (record row { tally = change row.tally }) s.rows i j row.standing (row_of-instance s.rows i row h) refl ∙ stays row h j (eqb i j) refl;
    }

estimate_quiet : (i q : ℕ) (e : Estimated) (s : NodeState) → IsQuiet s (count_estimate i q e s)
unfolding count_estimate
estimate_quiet i q e s = tally_quiet i (λ (t : Tally). record t { estimates = with_vote (record { sender = q; stamp = e.stamp; command = e.command }) t.estimates }) s

ack_quiet : (i q : ℕ) (s : NodeState) → IsQuiet s (count_ack i q s)
unfolding count_ack
ack_quiet i q s = tally_quiet i (λ (t : Tally). record t { acks = with_member t.acks q }) s

nack_quiet : (i q : ℕ) (s : NodeState) → IsQuiet s (count_nack i q s)
unfolding count_nack
nack_quiet i q s = tally_quiet i (λ (t : Tally). record t { nacks = with_member t.nacks q }) s

-- the parts of a message
catch_step : (i r : ℕ) (v : Command) (s : NodeState) → is_undecided (standing_at s i) ≡ true → IsStep s (catch_up i r v s)
catch_step i r v s u = by (nat_lt (round_of (standing_at s i)) r) refl
  where
    by : (b : Bool) → nat_lt (round_of (standing_at s i)) r ≡ b → IsStep s (if b then enter i r (Some v) s else s)
    by true h = enter_step i r (Some v) s u (ltb-true _ _ h)
    by false h = step_none s

take_estimate_quiet : (i q : ℕ) (e : Estimated) (s : NodeState) → IsQuiet s (take_estimate i q e s)
take_estimate_quiet i q e s = by (round_of (standing_at s i) == e.round)
  where
    by : (b : Bool) → IsQuiet s (if b then count_estimate i q e s else s)
    by true = estimate_quiet i q e s
    by false = quiet_none s

acknowledge_quiet : (i r q : ℕ) (s : NodeState) → IsQuiet s (acknowledge i r q s)
acknowledge_quiet i r q s = owe_quiet (Ack i r) (Some (backing_at (λ b. b.adopted) s i)) (q ∷ []) s

take_proposal_step : (i r : ℕ) (v : Command) (q : ℕ) (s : NodeState) → IsStep s (take_proposal i r v q s)
unfolding take_proposal
take_proposal_step i r v q s = by (round_of (standing_at s i) == r) (nat_lt (stamp_of (standing_at s i)) r) refl refl
  where
    by : (a b : Bool) → (round_of (standing_at s i) == r) ≡ a → nat_lt (stamp_of (standing_at s i)) r ≡ b → IsStep s (if a then acknowledge i r q (if b then stage (Adopt i r v) s else s) else s)
    by false b g h = step_none s
    by true false g h = quiet_step s _ (acknowledge_quiet i r q s)
    by true true g h =
        let below : stamp_of (standing_at s i) < r = ltb-true _ _ h in
        let same : round_of (standing_at s i) ≡ r = eqb-true _ _ g in
        let u : is_undecided (standing_at s i) ≡ true = round_undecided (standing_at s i) (omega arith) in
        step_then s (stage (Adopt i r v) s) _ (stage_step (Adopt i r v) s (both _ _ (both _ _ u g) h)) (quiet_step _ _ (acknowledge_quiet i r q (stage (Adopt i r v) s)))

answer_quiet : (i q : ℕ) (s : NodeState) → IsQuiet s (answer i q s)
answer_quiet i q s = by (decision_of (standing_at s i))
  where
    by : (o : Option Command) → IsQuiet s (option_map_or (λ v. owe (Decision i v) (Some (backing_at (λ b. b.decided) s i)) (q ∷ []) s) o s)
    by None = quiet_none s
    by (Some v) = owe_quiet (Decision i v) (Some (backing_at (λ b. b.decided) s i)) (q ∷ []) s

hear_estimate_step : (q i : ℕ) (e : Estimated) (s : NodeState) → IsStep s (heard_body q (Estimate i e) s)
unfolding heard_body
hear_estimate_step q i e s = by (is_undecided (standing_at s i)) (is_open s i) (coordinator_of e.round s.nodes == s.node) refl
  where
    by : (a b c : Bool) → is_undecided (standing_at s i) ≡ a → IsStep s (if a then (if b then (if c then take_estimate i q e (catch_up i e.round e.command (pool_add e.command s)) else s) else ask (q ∷ []) s) else answer i q s)
    by false b c u = quiet_step s _ (answer_quiet i q s)
    by true false c u = quiet_step s _ (ask_quiet (q ∷ []) s)
    by true true false u = step_none s
    by true true true u =
        let t = pool_add e.command s in
        let still : is_undecided (standing_at t i) ≡ true = ap is_undecided ((pool_quiet e.command s).stands i) ∙ u in
        step_then s t _ (quiet_step s t (pool_quiet e.command s)) (step_then t (catch_up i e.round e.command t) _ (catch_step i e.round e.command t still) (quiet_step _ _ (take_estimate_quiet i q e (catch_up i e.round e.command t))))

hear_proposal_step : (q i r : ℕ) (v : Command) (s : NodeState) → IsStep s (heard_body q (Proposal i r v) s)
unfolding heard_body
hear_proposal_step q i r v s = by (is_undecided (standing_at s i)) (is_open s i) (coordinator_of r s.nodes == q) refl
  where
    by : (a b c : Bool) → is_undecided (standing_at s i) ≡ a → IsStep s (if a then (if b then (if c then take_proposal i r v q (catch_up i r v (pool_add v s)) else s) else ask (q ∷ []) s) else s)
    by false b c u = step_none s
    by true false c u = quiet_step s _ (ask_quiet (q ∷ []) s)
    by true true false u = step_none s
    by true true true u =
        let t = pool_add v s in
        let still : is_undecided (standing_at t i) ≡ true = ap is_undecided ((pool_quiet v s).stands i) ∙ u in
        step_then s t _ (quiet_step s t (pool_quiet v s)) (step_then t (catch_up i r v t) _ (catch_step i r v t still) (take_proposal_step i r v q (catch_up i r v t)))

body_step : (q : ℕ) (body : Body) (s : NodeState) → IsStep s (heard_body q body s)
unfolding heard_body
body_step q (Estimate i e) s = hear_estimate_step q i e s
body_step q (Proposal i r v) s = hear_proposal_step q i r v s
body_step q (Ack i r) s = by (is_open s i && has_proposed i r s)
  where
    by : (b : Bool) → IsStep s (if b then count_ack i q s else s)
    by true = quiet_step s _ (ack_quiet i q s)
    by false = step_none s
body_step q (Decision i v) s = by (is_undecided (standing_at s i)) refl
  where
    by : (b : Bool) → is_undecided (standing_at s i) ≡ b → IsStep s (if b then conclude i v s else s)
    by true u = conclude_step i v s u
    by false u = step_none s
body_step q (Request c) s = quiet_step s _ (pool_quiet c s)
body_step q (Nack i r) s = by (is_open s i && has_proposed i r s)
  where
    by : (b : Bool) → IsStep s (if b then count_nack i q s else s)
    by true = quiet_step s _ (nack_quiet i q s)
    by false = step_none s
body_step q Beat s = quiet_step s _ (record { nodes = refl; node = refl; stands = λ i. refl; marked = refl; ends = refl; running = refl; staged = refl })
body_step q (Suspects set) s = quiet_step s _ (record { nodes = refl; node = refl; stands = λ i. refl; marked = refl; ends = refl; running = refl; staged = refl })
body_step q (Ask i) s = quiet_step s _ (answer_quiet i q s)

heard_step : (m : Message) (s : NodeState) → IsStep s (heard m s)
heard_step m s = by (m.to == s.node)
  where
    by : (b : Bool) → IsStep s (if b then heard_body m.from m.body s else s)
    by true = body_step m.from m.body s
    by false = step_none s

pub heard_lawful : (m : Message) (s : NodeState) → IsLawful s → IsLawful (heard m s)
heard_lawful m s h = (heard_step m s).lawful h

pub heard_marked : (m : Message) (s : NodeState) → (heard m s).marked ≡ s.marked
heard_marked m s = (heard_step m s).marked
