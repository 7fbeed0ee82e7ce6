-- A node that was reached is in rounds above 0, and so is every message that it owes.
use Rattle.std.proofs.Common.{◌≡◌, ◌+◌, ◌^◌, ℕ, ◌<◌, zero, suc, inl, inr, Bool, true, false, ◌&&◌, ◌||◌, not, ◌==◌, nat_lt, List, [], ◌∷◌, length, find, Contains, refl, ap, sym, ◌∙◌, subst, arith, ltb-true, Option, Some, None, option_map, is_some, is_none, if◌then◌else◌}
use Rattle.std.specs.Option.{option_map_or}
use Rattle.std.proofs.lemmas.Bool.{false≢true, and_parts}
use Rattle.std.proofs.lemmas.Option.{none-some, same_Some}
use Rattle.std.proofs.lemmas.List.Elements.{All-contains_itself, All-contains, All-map, All-weaker, Contains-append_cases}
use Rattle.rr_types.specs.declared.command.RequestNo.{RequestNo}
use Rattle.rr_types.specs.declared.command.Command.{Command}
use Rattle.rr_types.specs.declared.fact.Fact.{Fact}
use Rattle.rr_types.specs.declared.fact.Fact.TheVariants.{Enter, Propose, Adopt, Decide}
use Rattle.rr_types.specs.declared.message.Body.{Body}
use Rattle.rr_types.specs.declared.message.Body.TheVariants as say
use Rattle.rr_types.specs.declared.message.Body.TheVariants.{Estimate, Proposal, Ack, Decision, Request, Nack, Beat, Suspects, Ask}
use Rattle.rr_types.specs.declared.message.Message.{Message}
use Rattle.rr_types.specs.declared.promise.Standing.{Standing}
use Rattle.rr_types.specs.declared.promise.Standing.TheVariants.{Decided, Open}
use Rattle.rr_types.specs.declared.promise.Entry.{Entry}
use Rattle.rr_types.specs.Registry.{has_request}
use Rattle.rr_types.specs.Rounds.{Estimated, OpenAt, coordinator_of}
use Rattle.rr_types.specs.Nodes.{has_member, with_member}
use Rattle.rr_types.specs.Standings.{is_undecided, round_of, stamp_of, estimate_of, carries_on, fits}
use Rattle.rr_types.specs.Facts.{instance_of, after_fact, decision_of}
use Rattle.rr_types.specs.Promises.{standing_in, promise_of, take_on, take_on_all, all_fit}
use Rattle.rr_model.specs.Lawful.{Heard}
use Rattle.rr_model.specs.NodeState.{NodeState, Row, Owed, Tally, next_number, everyone, others, row_of, put_row, standing_at, open_instances, is_open, first_undecided, is_decided_request, decided_prefix}
use Rattle.rr_model.specs.NodeDetector.{all_ticked, late_nodes}
use Rattle.rr_types.specs.Nodes.{joined}
use Rattle.rr_model.specs.NodeParts.{messages_to, owe, pool_add, stage, free_command, backing_at, leave_round, enter_with, entering_estimate, enter, restate, restate_all, conclude, propose}
use Rattle.rr_model.specs.NodeDue.{Due, Begin, Offer, Conclude, MoveOn, pick, is_majority, due_of_coordinator, due_of_row, due_at, first_due, due, carry_out, settle_within, settle}
use Rattle.rr_types.specs.declared.input.Input.{Input}
use Rattle.rr_types.specs.declared.input.Input.TheVariants.{Submit, Suspect, Tick, Advance, Hear}
use Rattle.rr_model.specs.NodeStep.{is_waiting, wait_for, submitted, is_list_full, is_behind, ask, ticked_on, lowest_in_round, advanced, with_vote, change_tally, count_estimate, count_ack, count_nack, catch_up, take_proposal, take_estimate, has_proposed, answer, heard_body, taken_in, node_step, group_taken, group_put_back, marked_running, may_leave, next_leaving, restored, started}
use Rattle.rr_model.specs.NodeLaws.{StateEvent, Told, Grouped, PutBack, Marked, Left, Answered, after_event, HasRound, IsTruthful}
use Rattle.rr_model.specs.World.{World}
use Rattle.rr_model.specs.NodeWorld.{MayCome}
use Rattle.rr_model.specs.NodeReached.{NamesRounds, IsProperInput, IsProperEvent, opened_over, IsReached, Opened, Happened}
use Rattle.rr_model.proofs.Promised.{standing_in-take_on}
use Rattle.rr_model.proofs.NodeRows.{stands, row_of-put_row, stands-promised}
use Rattle.rr_model.proofs.NodeKnows.{stage_stands, change_standing}
use Rattle.rr_model.proofs.NodeStages.{still_owed, found_passes}
use Rattle.rr_model.proofs.NodeReached.{reached_truthful}

-- an open instance is in a round above 0
abbrev AboveZero : Option Standing → Type 0
AboveZero s = (o : OpenAt) → s ≡ Some (Open o) → 0 < o.round

-- the state is in rounds above 0, and all that is owed names such
record IsInRounds (s : NodeState) : Type 0 where
  standing : (i : ℕ) → AboveZero (standing_at s i)
  owed : (o : Owed) → Contains s.owed o → NamesRounds o.message.body

-- a fact enters rounds above 0
abbrev EntersAbove : Fact → Type 0
EntersAbove (Enter i e) = 0 < e.round
EntersAbove (Propose i r v) = Unit {0}
EntersAbove (Adopt i r v) = Unit {0}
EntersAbove (Decide i v) = Unit {0}

fact_above : (f : Fact) (s : Option Standing) → EntersAbove f → AboveZero s → AboveZero (after_fact s f)
fact_above (Enter i e) s x a o y = subst (λ z. 0 < z) (ap round_of y) x
fact_above (Propose i r v) None x a o y = absurd (none-some _ y)
fact_above (Propose i r v) (Some (Decided w)) x a o y = absurd (false≢true (ap is_undecided y))
fact_above (Propose i r v) (Some (Open u)) x a o y = subst (λ z. 0 < z) (ap round_of y) (a u refl)
fact_above (Adopt i r v) None x a o y = absurd (none-some _ y)
fact_above (Adopt i r v) (Some (Decided w)) x a o y = absurd (false≢true (ap is_undecided y))
fact_above (Adopt i r v) (Some (Open u)) x a o y = subst (λ z. 0 < z) (ap round_of y) (a u refl)
fact_above (Decide i v) s x a o y = absurd (false≢true (ap is_undecided y))

-- facts that fit enter rounds above 0
fitting_above : (n p : ℕ) (s : Option Standing) (f : Fact) → fits n p s f ≡ true → EntersAbove f
fitting_above n p s (Enter i e) fit =
    let l : round_of s < e.round = ltb-true _ _ (and_parts (is_undecided s) (nat_lt (round_of s) e.round) (and_parts (is_undecided s && nat_lt (round_of s) e.round) (carries_on s e) fit).0).1 in
    omega arith
fitting_above n p s (Propose i r v) fit = tt
fitting_above n p s (Adopt i r v) fit = tt
fitting_above n p s (Decide i v) fit = tt

either_above : (s t : Option Standing) (b : Bool) → AboveZero s → AboveZero t → AboveZero (if b then s else t)
either_above s t true x y = x
either_above s t false x y = y

promise_above : (n p : ℕ) (es : List Entry) (facts : List Fact) → all_fit n p es facts ≡ true → ((i : ℕ) → AboveZero (standing_in es i)) → (i : ℕ) → AboveZero (standing_in (take_on_all es facts) i)
promise_above n p es [] fit a i = a i
promise_above n p es (f ∷ fs) fit a i =
    let parts : (fits n p (standing_in es (instance_of f)) f ≡ true) × (all_fit n p (take_on es f) fs ≡ true) = and_parts _ _ fit in
    promise_above n p (take_on es f) fs parts.1
    (λ j. subst AboveZero (sym (standing_in-take_on es f j)) (either_above (after_fact (standing_in es j) f) (standing_in es j) (instance_of f == j) (fact_above f (standing_in es j) (fitting_above n p _ f parts.0) (a j)) (a j))) i

same : (s t : NodeState) → t.rows ≡ s.rows → t.owed ≡ s.owed → IsInRounds s → IsInRounds t
same s t r o I = record { standing = λ i. subst (λ z. AboveZero (stands (row_of z i))) (sym r) (I.standing i); owed = λ x c. I.owed x (subst (λ z. Contains z x) o c) }

either : (t u : NodeState) (b : Bool) → (b ≡ true → IsInRounds t) → IsInRounds u → IsInRounds (if b then t else u)
either t u true x y = x refl
either t u false x y = y

with_some : {A : Type 0} → (s : NodeState) (f : A → NodeState) (o : Option A) → ((x : A) → o ≡ Some x → IsInRounds (f x)) → IsInRounds s → IsInRounds (option_map_or f o s)
with_some s f None h I = I
with_some s f (Some x) h I = h x refl

sent_name : (from : ℕ) (b : Body) (k : Option ℕ) (to : List ℕ) → NamesRounds b → (o : Owed) → Contains (messages_to from b k to) o → NamesRounds o.message.body
sent_name from b k to x o c = All-contains (λ (o : Owed). NamesRounds o.message.body) (messages_to from b k to) o
    (All-map (λ (o : Owed). NamesRounds o.message.body) (λ q. record { message = record { from = from; to = q; body = b }; backing = k }) to
    (All-weaker (Contains to) (λ q. NamesRounds b) (λ q z. x) to (All-contains_itself to))) c

owe_in : (b : Body) (k : Option ℕ) (to : List ℕ) (s : NodeState) → NamesRounds b → IsInRounds s → IsInRounds (owe b k to s)
unfolding owe
owe_in b k to s x I = record {
  standing = I.standing;
  owed = λ o c. elim (Contains-append_cases s.owed (messages_to s.node b k to) o c) [
    | inl z ↦ I.owed o z
    | inr z ↦ sent_name s.node b k to x o z
  ];
}

stage_owed : (f : Fact) (s : NodeState) → (stage f s).owed ≡ s.owed
unfolding stage
stage_owed f s = refl

stage_in : (f : Fact) (s : NodeState) → EntersAbove f → IsInRounds s → IsInRounds (stage f s)
stage_in f s x I = record {
  standing = λ j. subst AboveZero (sym (stage_stands f s j)) (either_above (after_fact (standing_at s (instance_of f)) f) (standing_at s j) (instance_of f == j) (fact_above f (standing_at s (instance_of f)) x (I.standing (instance_of f))) (I.standing j));
  owed = λ o c. I.owed o (subst (λ z. Contains z o) (stage_owed f s) c);
}

pool_in : (c : Command) (s : NodeState) → IsInRounds s → IsInRounds (pool_add c s)
unfolding pool_add
pool_in c s I = either s _ (has_request s.pool c.request || is_decided_request s c.request) (λ b. I) (same s _ refl refl I)

wait_in : (q : RequestNo) (s : NodeState) → IsInRounds s → IsInRounds (wait_for q s)
unfolding wait_for
wait_in q s I = either s _ (is_waiting s q) (λ b. I) (same s _ refl refl I)

conclude_in : (i : ℕ) (v : Command) (s : NodeState) → IsInRounds s → IsInRounds (conclude i v s)
unfolding conclude
conclude_in i v s I = owe_in (say.Decision i v) (Some (next_number s)) (others s) (stage (Decide i v) s) tt (stage_in (Decide i v) s tt I)

propose_in : (i r : ℕ) (v : Command) (s : NodeState) → 0 < r → IsInRounds s → IsInRounds (propose i r v s)
unfolding propose
propose_in i r v s l I = owe_in (say.Proposal i r v) (Some (next_number s)) _ (stage (Propose i r v) s) l (stage_in (Propose i r v) s tt I)

leave_in : (i : ℕ) (s : NodeState) → IsInRounds s → IsInRounds (leave_round i s)
leave_in i s I = either _ s (nat_lt (stamp_of (standing_at s i)) (round_of (standing_at s i)) && not (coordinator_of (round_of (standing_at s i)) s.nodes == s.node))
    (λ b. owe_in (say.Nack i (round_of (standing_at s i))) None (coordinator_of (round_of (standing_at s i)) s.nodes ∷ []) s
    (let l : stamp_of (standing_at s i) < round_of (standing_at s i) = ltb-true _ _ (and_parts _ _ b).0 in omega arith) I) I

-- an entering estimate is of the round entered
entering_round : (i r : ℕ) (heard : Option Command) (s : NodeState) (e : Estimated) → (own pooled given : Option Command) → estimate_of (standing_at s i) ≡ own → free_command s i ≡ pooled → heard ≡ given → entering_estimate i r heard s ≡ Some e → r ≡ e.round
entering_round i r heard s e (Some v) pooled given a b c x =
    let y : Some (record { round = r; stamp = stamp_of (standing_at s i); command = v }) ≡ Some e = rw a at x in
    ap (λ (z : Estimated). z.round) (same_Some _ e y)
entering_round i r heard s e None (Some v) given a b c x =
    let y : Some (record { round = r; stamp = 0; command = v }) ≡ Some e = rw (a, b) at x in
    ap (λ (z : Estimated). z.round) (same_Some _ e y)
entering_round i r heard s e None None None a b c x =
    let y : None ≡ Some e = rw (a, b, c) at x in absurd (none-some e y)
entering_round i r heard s e None None (Some v) a b c x =
    let y : Some (record { round = r; stamp = 0; command = v }) ≡ Some e = rw (a, b, c) at x in
    ap (λ (z : Estimated). z.round) (same_Some _ e y)

enter_in : (i r : ℕ) (said : Option Command) (s : NodeState) → 0 < r → IsInRounds s → IsInRounds (enter i r said s)
unfolding enter
enter_in i r said s l I = with_some s (λ e. enter_with i e (leave_round i s)) (entering_estimate i r said s)
    (λ e x.
    let above : 0 < e.round = subst (λ z. 0 < z) (entering_round i r said s e (estimate_of (standing_at s i)) (free_command s i) said refl refl refl x) l in
    owe_in (say.Estimate i e) (Some (next_number (leave_round i s))) (coordinator_of e.round (leave_round i s).nodes ∷ []) (stage (Enter i e) (leave_round i s)) above (stage_in (Enter i e) (leave_round i s) above (leave_in i s I))) I

restate_first : (i : ℕ) (s : NodeState) (o : OpenAt) → IsInRounds s → 0 < o.round → IsInRounds (if nat_lt o.stamp o.round
    then owe (say.Estimate i (record { round = o.round; stamp = o.stamp; command = o.estimate })) (Some (backing_at (λ b. b.entered) s i)) (coordinator_of o.round s.nodes ∷ []) s
    else owe (say.Ack i o.round) (Some (backing_at (λ b. b.adopted) s i)) (coordinator_of o.round s.nodes ∷ []) s)
restate_first i s o I l = either _ _ (nat_lt o.stamp o.round) (λ b. owe_in _ _ _ s l I) (owe_in _ _ _ s l I)

restate_open : (i : ℕ) (s : NodeState) (o : OpenAt) (v : Option Command) → IsInRounds s → standing_at s i ≡ Some (Open o) → o.proposal ≡ v → IsInRounds (restate i s)
unfolding restate
restate_open i s o None I e a = rw (e, a) (restate_first i s o I (I.standing i o e))
restate_open i s o (Some v) I e a = rw (e, a) (owe_in (say.Proposal i o.round v) (Some (backing_at (λ b. b.proposed) s i)) (everyone s) _ (I.standing i o e) (restate_first i s o I (I.standing i o e)))

restate_in : (i : ℕ) (s : NodeState) (o : Option Standing) → IsInRounds s → standing_at s i ≡ o → IsInRounds (restate i s)
unfolding restate
restate_in i s None I e = rw e I
restate_in i s (Some (Decided v)) I e = rw e I
restate_in i s (Some (Open o)) I e = restate_open i s o o.proposal I e refl

restate_all_in : (is : List ℕ) (s : NodeState) → IsInRounds s → IsInRounds (restate_all is s)
restate_all_in [] s I = I
restate_all_in (i ∷ is) s I = restate_all_in is (restate i s) (restate_in i s (standing_at s i) I refl)

-- what is due is offered in a round above 0
abbrev OffersAbove : Due → Type 0
OffersAbove (Begin i) = Unit {0}
OffersAbove (Offer i r v) = 0 < r
OffersAbove (Conclude i v) = Unit {0}
OffersAbove (MoveOn i) = Unit {0}

coordinator_above : (s : NodeState) (i : ℕ) (tally : Tally) (r : ℕ) (v : Option Command) (d : Due) → 0 < r → due_of_coordinator s i tally r v ≡ Some d → OffersAbove d
coordinator_above s i tally r None d l x = at (pick s.nodes tally) x
  where
    at : (k : Option Command) → option_map (λ v. Offer i r v) k ≡ Some d → OffersAbove d
    at None y = absurd (none-some d y)
    at (Some v) y = subst OffersAbove (same_Some _ d y) l
coordinator_above s i tally r (Some v) d l x = at (is_majority s tally.acks) (is_majority s (joined tally.acks tally.nacks) && nat_lt r 2147483647) x
  where
    at : (b a : Bool) → (if b then Some (Conclude i v) else (if a then Some (MoveOn i) else None)) ≡ Some d → OffersAbove d
    at true a y = subst OffersAbove (same_Some _ d y) tt
    at false true y = subst OffersAbove (same_Some _ d y) tt
    at false false y = absurd (none-some d y)

row_above : (s : NodeState) (i : ℕ) (tally : Tally) (t : Standing) (d : Due) → AboveZero (Some t) → due_of_row s i tally t ≡ Some d → OffersAbove d
row_above s i tally (Decided v) d a x = absurd (none-some d x)
row_above s i tally (Open o) d a x = at (coordinator_of o.round s.nodes == s.node) (has_member s.suspects (coordinator_of o.round s.nodes) && nat_lt o.round 2147483647) x
  where
    at : (b c : Bool) → (if b then due_of_coordinator s i tally o.round o.proposal else (if c then Some (MoveOn i) else None)) ≡ Some d → OffersAbove d
    at true c y = coordinator_above s i tally o.round o.proposal d (a o refl) y
    at false true y = subst OffersAbove (same_Some _ d y) tt
    at false false y = absurd (none-some d y)

at_above : (s : NodeState) (i : ℕ) (d : Due) (o : Option Row) → IsInRounds s → row_of s.rows i ≡ o → due_at s i ≡ Some d → OffersAbove d
at_above s i d None I e x = at (is_some (free_command s i)) (rw e at x)
  where
    at : (b : Bool) → (if b then Some (Begin i) else None) ≡ Some d → OffersAbove d
    at true y = subst OffersAbove (same_Some _ d y) tt
    at false y = absurd (none-some d y)
at_above s i d (Some row) I e x = row_above s i row.tally row.standing d (subst (λ z. AboveZero (stands z)) e (I.standing i)) (rw e at x)

first_above : (s : NodeState) (is : List ℕ) (d : Due) → IsInRounds s → first_due s is ≡ Some d → OffersAbove d
first_above s [] d I x = absurd (none-some d x)
first_above s (i ∷ is) d I x = at (first_above s is d I) (due_at s i) refl x
  where
    at : (first_due s is ≡ Some d → OffersAbove d) → (o : Option Due) → due_at s i ≡ o → option_map_or Some o (first_due s is) ≡ Some d → OffersAbove d
    at ih None e y = ih y
    at ih (Some c) e y = at_above s i d (row_of s.rows i) I refl (e ∙ y)

due_above : (s : NodeState) (d : Due) → IsInRounds s → due s ≡ Some d → OffersAbove d
unfolding due
due_above s d I x = first_above s (open_instances s) d I x

carry_in : (d : Due) (s : NodeState) → OffersAbove d → IsInRounds s → IsInRounds (carry_out d s)
unfolding carry_out
carry_in (Begin i) s x I = enter_in i 1 None s (omega arith) I
carry_in (Offer i r v) s x I = propose_in i r v s x I
carry_in (Conclude i v) s x I = conclude_in i v s I
carry_in (MoveOn i) s x I = enter_in i (round_of (standing_at s i) + 1) None s (omega arith) I

within_in : (turns : ℕ) (s : NodeState) → IsInRounds s → IsInRounds (settle_within turns s)
unfolding settle_within
within_in zero s I = I
within_in (suc turns) s I = with_some s (λ d. settle_within turns (carry_out d s)) (due s) (λ d e. within_in turns (carry_out d s) (carry_in d s (due_above s d I e) I)) I

settle_in : (s : NodeState) → IsInRounds s → IsInRounds (settle s)
unfolding settle
settle_in s I = within_in (2 ^ 54) s I

submitted_in : (c : Command) (s : NodeState) → IsInRounds s → IsInRounds (submitted c s)
unfolding submitted
submitted_in c s I =
    let W : IsInRounds (wait_for c.request s) = wait_in c.request s I in
    either (wait_for c.request s) _ (has_request (decided_prefix s) c.request || is_waiting s c.request) (λ b. W) (owe_in (Request c) None (others s) (pool_add c (wait_for c.request s)) tt (pool_in c (wait_for c.request s) W))

ask_in : (to : List ℕ) (s : NodeState) → IsInRounds s → IsInRounds (ask to s)
ask_in to s I = owe_in (Ask (first_undecided s)) None to s tt I

ticked_in : (s : NodeState) → IsInRounds s → IsInRounds (ticked_on s)
unfolding ticked_on
ticked_in s I =
    let t : NodeState = record s { watches = all_ticked s.watches } in
    let u : NodeState = owe Beat None (others t) t in
    let v : NodeState = owe (Suspects (late_nodes t.node t.watches)) None (everyone t) u in
    let w : NodeState = restate_all (open_instances t) v in
    let W : IsInRounds w = restate_all_in (open_instances t) v (owe_in (Suspects (late_nodes t.node t.watches)) None (everyone t) u tt (owe_in Beat None (others t) t tt (same s t refl refl I))) in
    either _ w (not (is_list_full w) && is_behind w) (λ b. ask_in (others w) w W) W

advanced_in : (s : NodeState) → IsInRounds s → IsInRounds (advanced s)
unfolding advanced
advanced_in s I = with_some s (λ i. enter i (round_of (standing_at s i) + 1) None s) (lowest_in_round s) (λ i e. enter_in i (round_of (standing_at s i) + 1) None s (omega arith) I) I

tally_in : (i : ℕ) (change : Tally → Tally) (s : NodeState) → IsInRounds s → IsInRounds (change_tally i change s)
tally_in i change s I = with_some s (λ (row : Row). record s { rows = put_row (record row { tally = change row.tally }) s.rows }) (row_of s.rows i)
    (λ row e. record {
      standing = λ j. subst AboveZero (sym (ap stands (row_of-put_row (record row { tally = change row.tally }) s.rows j) ∙ change_standing i j change row s.rows e (row.instance == j) refl)) (I.standing j);
      owed = I.owed;
    }) I

count_estimate_in : (i q : ℕ) (e : Estimated) (s : NodeState) → IsInRounds s → IsInRounds (count_estimate i q e s)
unfolding count_estimate
count_estimate_in i q e s I = tally_in i (λ (t : Tally). record t { estimates = with_vote (record { sender = q; stamp = e.stamp; command = e.command }) t.estimates }) s I

count_ack_in : (i q : ℕ) (s : NodeState) → IsInRounds s → IsInRounds (count_ack i q s)
unfolding count_ack
count_ack_in i q s I = tally_in i (λ (t : Tally). record t { acks = with_member t.acks q }) s I

count_nack_in : (i q : ℕ) (s : NodeState) → IsInRounds s → IsInRounds (count_nack i q s)
unfolding count_nack
count_nack_in i q s I = tally_in i (λ (t : Tally). record t { nacks = with_member t.nacks q }) s I

catch_in : (i r : ℕ) (v : Command) (s : NodeState) → 0 < r → IsInRounds s → IsInRounds (catch_up i r v s)
catch_in i r v s l I = either _ s (nat_lt (round_of (standing_at s i)) r) (λ b. enter_in i r (Some v) s l I) I

take_estimate_in : (i q : ℕ) (e : Estimated) (s : NodeState) → IsInRounds s → IsInRounds (take_estimate i q e s)
take_estimate_in i q e s I = either _ s (round_of (standing_at s i) == e.round) (λ b. count_estimate_in i q e s I) I

take_proposal_in : (i r : ℕ) (v : Command) (q : ℕ) (s : NodeState) → 0 < r → IsInRounds s → IsInRounds (take_proposal i r v q s)
unfolding take_proposal
take_proposal_in i r v q s l I =
    let t : NodeState = (if nat_lt (stamp_of (standing_at s i)) r then stage (Adopt i r v) s else s) in
    let T : IsInRounds t = either _ s (nat_lt (stamp_of (standing_at s i)) r) (λ b. stage_in (Adopt i r v) s tt I) I in
    either _ s (round_of (standing_at s i) == r) (λ b. owe_in (Ack i r) (Some (backing_at (λ b. b.adopted) t i)) (q ∷ []) t l T) I

answer_in : (i q : ℕ) (s : NodeState) → IsInRounds s → IsInRounds (answer i q s)
answer_in i q s I = with_some s (λ v. owe (Decision i v) (Some (backing_at (λ b. b.decided) s i)) (q ∷ []) s) (decision_of (standing_at s i)) (λ v e. owe_in (Decision i v) (Some (backing_at (λ b. b.decided) s i)) (q ∷ []) s tt I) I

body_in : (q : ℕ) (body : Body) (s : NodeState) → NamesRounds body → IsInRounds s → IsInRounds (heard_body q body s)
unfolding heard_body
body_in q (Estimate i e) s l I =
    let T : IsInRounds (pool_add e.command s) = pool_in e.command s I in
    let U : IsInRounds (catch_up i e.round e.command (pool_add e.command s)) = catch_in i e.round e.command (pool_add e.command s) l T in
    either _ _ (is_undecided (standing_at s i))
    (λ b. either _ _ (is_open s i) (λ c. either _ s (coordinator_of e.round s.nodes == s.node) (λ d. take_estimate_in i q e (catch_up i e.round e.command (pool_add e.command s)) U) I) (ask_in (q ∷ []) s I))
    (answer_in i q s I)
body_in q (Proposal i r v) s l I =
    let T : IsInRounds (pool_add v s) = pool_in v s I in
    let U : IsInRounds (catch_up i r v (pool_add v s)) = catch_in i r v (pool_add v s) l T in
    either _ s (is_undecided (standing_at s i))
    (λ b. either _ _ (is_open s i) (λ c. either _ s (coordinator_of r s.nodes == q) (λ d. take_proposal_in i r v q (catch_up i r v (pool_add v s)) l U) I) (ask_in (q ∷ []) s I))
    I
body_in q (Ack i r) s l I = either _ s (is_open s i && has_proposed i r s) (λ b. count_ack_in i q s I) I
body_in q (Decision i v) s l I = either _ s (is_undecided (standing_at s i)) (λ b. conclude_in i v s I) I
body_in q (Request c) s l I = pool_in c s I
body_in q (Nack i r) s l I = either _ s (is_open s i && has_proposed i r s) (λ b. count_nack_in i q s I) I
body_in q Beat s l I = same s _ refl refl I
body_in q (Suspects set) s l I = same s _ refl refl I
body_in q (Ask i) s l I = answer_in i q s I

taken_stays_in : (n : ℕ) (input : Input Message) (s : NodeState) → IsProperInput n input → IsInRounds s → IsInRounds (taken_in input s)
unfolding taken_in
taken_stays_in n (Submit c) s x I = submitted_in c s I
taken_stays_in n (Suspect set) s x I = same s _ refl refl I
taken_stays_in n Tick s x I = ticked_in s I
taken_stays_in n Advance s x I = advanced_in s I
taken_stays_in n (Hear m) s x I = either _ s (m.to == s.node) (λ b. body_in m.from m.body s x.1 I) I

input_in : (n : ℕ) (input : Input Message) (s : NodeState) → IsProperInput n input → IsInRounds s → IsInRounds (node_step input s)
unfolding node_step
input_in n input s x I = settle_in (taken_in input s) (taken_stays_in n input s x I)

grouped_in : (s : NodeState) → IsInRounds s → IsInRounds (if is_none s.running then group_taken s else s)
unfolding group_taken
grouped_in s I = either _ s (is_none s.running) (λ b. same s _ refl refl I) I

put_back_in : (s : NodeState) → IsInRounds s → IsInRounds (group_put_back s)
unfolding group_put_back
put_back_in s I = same s _ refl refl I

marked_in : (s : NodeState) → IsInRounds s → IsInRounds (marked_running s)
unfolding marked_running
marked_in s I = with_some s (λ facts. record s { running = None; marked = take_on_all s.marked facts; marked_end = s.marked_end + length facts }) s.running (λ facts e. same s _ refl refl I) I

event_in : (n : ℕ) (s : NodeState) (e : StateEvent) → IsProperEvent n e → IsInRounds s → IsInRounds (after_event s e)
event_in n s (Told input) x I = input_in n input s x I
event_in n s Grouped x I = grouped_in s I
event_in n s PutBack x I = put_back_in s I
event_in n s Marked x I = marked_in s I
event_in n s Left x I = record { standing = I.standing; owed = λ o c. I.owed o (still_owed s.marked_end s.owed o c) }
event_in n s Answered x I = same s _ refl refl I

opened_in : (n p : ℕ) (facts : List Fact) → all_fit n p [] facts ≡ true → IsInRounds (opened_over n p facts)
unfolding started
opened_in n p facts fit =
    let s : NodeState = restored n p (promise_of facts) (length facts) in
    let I : IsInRounds s = record {
      standing = λ i. subst AboveZero (sym (stands-promised (length facts) (promise_of facts) i)) (promise_above n p [] facts fit (λ j o x. absurd (none-some _ x)) i);
      owed = λ o c. let l : c.0 < 0 = c.1 in absurd (omega arith);
    } in
    restate_all_in (open_instances s) s I

reached_in : (n p : ℕ) (facts : List Fact) (h : Heard) (s : NodeState) → IsReached n p facts h s → IsInRounds s
reached_in n p facts h s (Opened fs fit) = opened_in n p fs fit
reached_in n p facts h s (Happened fs g t e r x) = event_in n t e x (reached_in n p fs g t r)

-- such a message has its round
pub names_has_round : (b : Body) → NamesRounds b → HasRound b
names_has_round (Estimate i e) x = tt
names_has_round (Proposal i r v) x = tt
names_has_round (Ack i r) x = x
names_has_round (Decision i v) x = tt
names_has_round (Request c) x = tt
names_has_round (Nack i r) x = tt
names_has_round Beat x = tt
names_has_round (Suspects set) x = tt
names_has_round (Ask i) x = tt

module _ (n p : ℕ) (facts : List Fact) (h : Heard) (s : NodeState) (R : IsReached n p facts h s) where
  -- what a node that was reached owes names rounds above 0
  pub reached_owes_rounds : (o : Owed) → Contains s.owed o → NamesRounds o.message.body
  reached_owes_rounds o c = (reached_in n p facts h s R).owed o c

  -- its open instances are in rounds above 0
  pub reached_round_above : (i : ℕ) (o : OpenAt) → standing_at s i ≡ Some (Open o) → 0 < o.round
  reached_round_above i o e = (reached_in n p facts h s R).standing i o e

  leaving_names : (m : Message) (o : Option Owed) → find (may_leave s.marked_end) s.owed ≡ o → option_map (λ (z : Owed). z.message) o ≡ Some m → NamesRounds m.body
  leaving_names m None e x = absurd (none-some m x)
  leaving_names m (Some o) e x = subst (λ (z : Message). NamesRounds z.body) (same_Some o.message m x) (reached_owes_rounds o (found_passes (may_leave s.marked_end) s.owed o e).0)

  -- and what leaves it is its own
  pub reached_names_rounds : (m : Message) → next_leaving s ≡ Some m → (m.from ≡ p) × NamesRounds m.body
  reached_names_rounds m e =
      let names : NamesRounds m.body = leaving_names m (find (may_leave s.marked_end) s.owed) refl e in
      let T : IsTruthful p facts h s = reached_truthful n p facts h s R in
      ((T.leaving m e (names_has_round m.body names)).0, names)

  -- so it may leave in any world
  pub reached_may_leave : (w : World) → MayCome w p s Left
  reached_may_leave w m e = names_has_round m.body (reached_names_rounds m e).1
