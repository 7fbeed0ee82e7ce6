-- Inputs mark nothing: whatever a node is told, who it is, what is marked and which group runs stay.
use Rattle.std.proofs.Common.{◌≡◌, ◌+◌, ◌^◌, ℕ, zero, suc, Bool, true, false, ◌&&◌, ◌||◌, not, ◌==◌, nat_lt, List, [], ◌∷◌, refl, ◌∙◌, Option, Some, None, if◌then◌else◌}
use Rattle.std.specs.Option.{option_map_or}
use Rattle.rr_types.specs.declared.command.RequestNo.{RequestNo}
use Rattle.rr_types.specs.declared.command.Command.{Command}
use Rattle.rr_types.specs.declared.fact.Fact.{Fact}
use Rattle.rr_types.specs.declared.fact.Fact.TheVariants.{Enter, Propose, Adopt, Decide}
use Rattle.rr_types.specs.declared.message.Body.{Body}
use Rattle.rr_types.specs.declared.message.Body.TheVariants as say
use Rattle.rr_types.specs.declared.message.Body.TheVariants.{Estimate, Proposal, Ack, Decision, Request, Nack, Beat, Suspects, Ask}
use Rattle.rr_types.specs.declared.promise.Standing.{Standing}
use Rattle.rr_types.specs.declared.promise.Standing.TheVariants.{Decided, Open}
use Rattle.rr_types.specs.declared.promise.Entry.{Entry}
use Rattle.rr_types.specs.Registry.{has_request}
use Rattle.rr_types.specs.Rounds.{Estimated, coordinator_of}
use Rattle.rr_types.specs.Nodes.{with_member}
use Rattle.rr_types.specs.Standings.{is_undecided, round_of, stamp_of}
use Rattle.rr_types.specs.Facts.{decision_of}
use Rattle.rr_model.specs.NodeState.{NodeState, Row, Tally, next_number, everyone, others, row_of, put_row, standing_at, open_instances, is_open, first_undecided, is_decided_request, decided_prefix}
use Rattle.rr_model.specs.NodeDetector.{all_ticked, late_nodes}
use Rattle.rr_model.specs.NodeParts.{owe, pool_add, stage, backing_at, leave_round, enter_with, entering_estimate, enter, restate, restate_all, conclude, propose}
use Rattle.rr_model.specs.NodeDue.{Due, Begin, Offer, Conclude, MoveOn, due, carry_out, settle_within, settle}
use Rattle.rr_types.specs.declared.input.Input.{Input}
use Rattle.rr_types.specs.declared.message.Message.{Message}
use Rattle.rr_types.specs.declared.input.Input.TheVariants.{Submit, Suspect, Tick, Advance, Hear}
use Rattle.rr_model.specs.NodeStep.{is_waiting, wait_for, submitted, is_list_full, is_behind, ask, ticked_on, lowest_in_round, advanced, with_vote, change_tally, count_estimate, count_ack, count_nack, catch_up, acknowledge, take_proposal, take_estimate, has_proposed, answer, if_open, heard_body, taken_in, node_step, restored, started}
use Rattle.rr_model.specs.NodeStays.{StaysMarked}

itself : (s : NodeState) → StaysMarked s s
itself s = record { nodes = refl; node = refl; marked = refl; marked_end = refl; running = refl }

further : (s t u : NodeState) → StaysMarked s t → StaysMarked t u → StaysMarked s u
further s t u a b = record { nodes = b.nodes ∙ a.nodes; node = b.node ∙ a.node; marked = b.marked ∙ a.marked; marked_end = b.marked_end ∙ a.marked_end; running = b.running ∙ a.running }

either : (s t u : NodeState) (b : Bool) → StaysMarked s t → StaysMarked s u → StaysMarked s (if b then t else u)
either s t u true x y = x
either s t u false x y = y

with_some : {A : Type 0} → (s : NodeState) (f : A → NodeState) (o : Option A) → ((x : A) → StaysMarked s (f x)) → StaysMarked s (option_map_or f o s)
with_some s f None h = itself s
with_some s f (Some x) h = h x

owe_stays : (body : Body) (backing : Option ℕ) (to : List ℕ) (s : NodeState) → StaysMarked s (owe body backing to s)
unfolding owe
owe_stays body backing to s = record { nodes = refl; node = refl; marked = refl; marked_end = refl; running = refl }

stage_stays : (f : Fact) (s : NodeState) → StaysMarked s (stage f s)
unfolding stage
stage_stays f s = record { nodes = refl; node = refl; marked = refl; marked_end = refl; running = refl }

pool_stays : (c : Command) (s : NodeState) → StaysMarked s (pool_add c s)
unfolding pool_add
pool_stays c s = either s s _ (has_request s.pool c.request || is_decided_request s c.request) (itself s) (record { nodes = refl; node = refl; marked = refl; marked_end = refl; running = refl })

wait_stays : (q : RequestNo) (s : NodeState) → StaysMarked s (wait_for q s)
unfolding wait_for
wait_stays q s = either s s _ (is_waiting s q) (itself s) (record { nodes = refl; node = refl; marked = refl; marked_end = refl; running = refl })

conclude_stays : (i : ℕ) (v : Command) (s : NodeState) → StaysMarked s (conclude i v s)
unfolding conclude
conclude_stays i v s = further s (stage (Decide i v) s) _ (stage_stays (Decide i v) s) (owe_stays (say.Decision i v) (Some (next_number s)) (others s) (stage (Decide i v) s))

propose_stays : (i r : ℕ) (v : Command) (s : NodeState) → StaysMarked s (propose i r v s)
unfolding propose
propose_stays i r v s = further s (stage (Propose i r v) s) _ (stage_stays (Propose i r v) s) (owe_stays (say.Proposal i r v) (Some (next_number s)) _ (stage (Propose i r v) s))

leave_stays : (i : ℕ) (s : NodeState) → StaysMarked s (leave_round i s)
leave_stays i s = either s _ s (nat_lt (stamp_of (standing_at s i)) (round_of (standing_at s i)) && not (coordinator_of (round_of (standing_at s i)) s.nodes == s.node)) (owe_stays (say.Nack i (round_of (standing_at s i))) None (coordinator_of (round_of (standing_at s i)) s.nodes ∷ []) s) (itself s)

enter_with_stays : (i : ℕ) (e : Estimated) (s : NodeState) → StaysMarked s (enter_with i e s)
enter_with_stays i e s = further s (stage (Enter i e) s) _ (stage_stays (Enter i e) s) (owe_stays (say.Estimate i e) (Some (next_number s)) (coordinator_of e.round s.nodes ∷ []) (stage (Enter i e) s))

enter_stays : (i r : ℕ) (said : Option Command) (s : NodeState) → StaysMarked s (enter i r said s)
unfolding enter
enter_stays i r said s = with_some s (λ e. enter_with i e (leave_round i s)) (entering_estimate i r said s) (λ e. further s (leave_round i s) _ (leave_stays i s) (enter_with_stays i e (leave_round i s)))

proposing_stays : (s t : NodeState) (i r k : ℕ) (p : Option Command) → StaysMarked s t → StaysMarked s ((elim p as (λ x. NodeState → NodeState) [ None ↦ λ u. u | Some v ↦ λ u. owe (say.Proposal i r v) (Some k) (everyone s) u ]) t)
proposing_stays s t i r k None x = x
proposing_stays s t i r k (Some v) x = further s t _ x (owe_stays (say.Proposal i r v) (Some k) (everyone s) t)

restate_stays : (i : ℕ) (s : NodeState) → StaysMarked s (restate i s)
unfolding restate
restate_stays i s = by (standing_at s i) refl
  where
    by : (st : Option Standing) → standing_at s i ≡ st → StaysMarked s (restate i s)
    by None g = rw g (itself s)
    by (Some (Decided v)) g = rw g (itself s)
    by (Some (Open o)) g = rw g (proposing_stays s _ i o.round _ o.proposal (either s _ _ (nat_lt o.stamp o.round)
        (owe_stays (say.Estimate i (record { round = o.round; stamp = o.stamp; command = o.estimate })) (Some (backing_at (λ b. b.entered) s i)) (coordinator_of o.round s.nodes ∷ []) s)
        (owe_stays (say.Ack i o.round) (Some (backing_at (λ b. b.adopted) s i)) (coordinator_of o.round s.nodes ∷ []) s)))

restate_all_stays : (is : List ℕ) (s : NodeState) → StaysMarked s (restate_all is s)
restate_all_stays [] s = itself s
restate_all_stays (i ∷ is) s = further s (restate i s) _ (restate_stays i s) (restate_all_stays is (restate i s))

carry_stays : (d : Due) (s : NodeState) → StaysMarked s (carry_out d s)
unfolding carry_out
carry_stays (Begin i) s = enter_stays i 1 None s
carry_stays (Offer i r v) s = propose_stays i r v s
carry_stays (Conclude i v) s = conclude_stays i v s
carry_stays (MoveOn i) s = enter_stays i (round_of (standing_at s i) + 1) None s

within_stays : (turns : ℕ) (s : NodeState) → StaysMarked s (settle_within turns s)
unfolding settle_within
within_stays zero s = itself s
within_stays (suc turns) s = with_some s (λ d. settle_within turns (carry_out d s)) (due s) (λ d. further s (carry_out d s) _ (carry_stays d s) (within_stays turns (carry_out d s)))

settle_stays : (s : NodeState) → StaysMarked s (settle s)
unfolding settle
settle_stays s = within_stays (2 ^ 54) s

submitted_stays : (c : Command) (s : NodeState) → StaysMarked s (submitted c s)
unfolding submitted
submitted_stays c s =
    let t = wait_for c.request s in
    let u = pool_add c t in
    either s t _ (has_request (decided_prefix s) c.request || is_waiting s c.request) (wait_stays c.request s) (further s t _ (wait_stays c.request s) (further t u _ (pool_stays c t) (owe_stays (Request c) None (others s) u)))

ask_stays : (to : List ℕ) (s : NodeState) → StaysMarked s (ask to s)
ask_stays to s = owe_stays (Ask (first_undecided s)) None to s

ticked_stays : (s : NodeState) → StaysMarked s (ticked_on s)
unfolding ticked_on
ticked_stays s =
    let t = record s { watches = all_ticked s.watches } in
    let u = owe Beat None (others t) t in
    let v = owe (Suspects (late_nodes t.node t.watches)) None (everyone t) u in
    let w = restate_all (open_instances t) v in
    further s t _ (record { nodes = refl; node = refl; marked = refl; marked_end = refl; running = refl })
    (further t u _ (owe_stays Beat None (others t) t)
    (further u v _ (owe_stays (Suspects (late_nodes t.node t.watches)) None (everyone t) u)
    (further v w _ (restate_all_stays (open_instances t) v)
    (either w _ w (not (is_list_full w) && is_behind w) (ask_stays (others w) w) (itself w)))))

advanced_stays : (s : NodeState) → StaysMarked s (advanced s)
unfolding advanced
advanced_stays s = with_some s (λ i. enter i (round_of (standing_at s i) + 1) None s) (lowest_in_round s) (λ i. enter_stays i (round_of (standing_at s i) + 1) None s)

tally_stays : (i : ℕ) (change : Tally → Tally) (s : NodeState) → StaysMarked s (change_tally i change s)
tally_stays i change s = with_some s (λ (row : Row). record s { rows = put_row (record row { tally = change row.tally }) s.rows }) (row_of s.rows i) (λ row. record { nodes = refl; node = refl; marked = refl; marked_end = refl; running = refl })

count_estimate_stays : (i q : ℕ) (e : Estimated) (s : NodeState) → StaysMarked s (count_estimate i q e s)
unfolding count_estimate
count_estimate_stays i q e s = tally_stays i (λ (t : Tally). record t { estimates = with_vote (record { sender = q; stamp = e.stamp; command = e.command }) t.estimates }) s

count_ack_stays : (i q : ℕ) (s : NodeState) → StaysMarked s (count_ack i q s)
unfolding count_ack
count_ack_stays i q s = tally_stays i (λ (t : Tally). record t { acks = with_member t.acks q }) s

count_nack_stays : (i q : ℕ) (s : NodeState) → StaysMarked s (count_nack i q s)
unfolding count_nack
count_nack_stays i q s = tally_stays i (λ (t : Tally). record t { nacks = with_member t.nacks q }) s

catch_stays : (i r : ℕ) (v : Command) (s : NodeState) → StaysMarked s (catch_up i r v s)
catch_stays i r v s = either s _ s (nat_lt (round_of (standing_at s i)) r) (enter_stays i r (Some v) s) (itself s)

take_estimate_stays : (i q : ℕ) (e : Estimated) (s : NodeState) → StaysMarked s (take_estimate i q e s)
take_estimate_stays i q e s = either s _ s (round_of (standing_at s i) == e.round) (count_estimate_stays i q e s) (itself s)

acknowledge_stays : (i r q : ℕ) (s : NodeState) → StaysMarked s (acknowledge i r q s)
acknowledge_stays i r q s = owe_stays (Ack i r) (Some (backing_at (λ b. b.adopted) s i)) (q ∷ []) s

take_proposal_stays : (i r : ℕ) (v : Command) (q : ℕ) (s : NodeState) → StaysMarked s (take_proposal i r v q s)
unfolding take_proposal
take_proposal_stays i r v q s =
    let t = (if nat_lt (stamp_of (standing_at s i)) r then stage (Adopt i r v) s else s) in
    either s _ s (round_of (standing_at s i) == r) (further s t _ (either s _ s (nat_lt (stamp_of (standing_at s i)) r) (stage_stays (Adopt i r v) s) (itself s)) (acknowledge_stays i r q t)) (itself s)

answer_stays : (i q : ℕ) (s : NodeState) → StaysMarked s (answer i q s)
answer_stays i q s = with_some s (λ v. owe (Decision i v) (Some (backing_at (λ b. b.decided) s i)) (q ∷ []) s) (decision_of (standing_at s i)) (λ v. owe_stays (Decision i v) (Some (backing_at (λ b. b.decided) s i)) (q ∷ []) s)

if_open_stays : (i q : ℕ) (change : NodeState → NodeState) (s : NodeState) → StaysMarked s (change s) → StaysMarked s (if_open i q change s)
if_open_stays i q change s h = either s _ _ (is_open s i) h (ask_stays (q ∷ []) s)

body_stays : (q : ℕ) (body : Body) (s : NodeState) → StaysMarked s (heard_body q body s)
unfolding heard_body
body_stays q (Estimate i e) s =
    let t = pool_add e.command s in
    let u = catch_up i e.round e.command t in
    either s _ _ (is_undecided (standing_at s i))
    (either s _ _ (is_open s i) (either s _ s (coordinator_of e.round s.nodes == s.node) (further s t _ (pool_stays e.command s) (further t u _ (catch_stays i e.round e.command t) (take_estimate_stays i q e u))) (itself s)) (ask_stays (q ∷ []) s))
    (answer_stays i q s)
body_stays q (Proposal i r v) s =
    let t = pool_add v s in
    let u = catch_up i r v t in
    either s _ s (is_undecided (standing_at s i))
    (either s _ _ (is_open s i) (either s _ s (coordinator_of r s.nodes == q) (further s t _ (pool_stays v s) (further t u _ (catch_stays i r v t) (take_proposal_stays i r v q u))) (itself s)) (ask_stays (q ∷ []) s))
    (itself s)
body_stays q (Ack i r) s = either s _ s (is_open s i && has_proposed i r s) (count_ack_stays i q s) (itself s)
body_stays q (Decision i v) s = either s _ s (is_undecided (standing_at s i)) (conclude_stays i v s) (itself s)
body_stays q (Request c) s = pool_stays c s
body_stays q (Nack i r) s = either s _ s (is_open s i && has_proposed i r s) (count_nack_stays i q s) (itself s)
body_stays q Beat s = record { nodes = refl; node = refl; marked = refl; marked_end = refl; running = refl }
body_stays q (Suspects set) s = record { nodes = refl; node = refl; marked = refl; marked_end = refl; running = refl }
body_stays q (Ask i) s = answer_stays i q s

taken_stays : (input : Input Message) (s : NodeState) → StaysMarked s (taken_in input s)
unfolding taken_in
taken_stays (Submit c) s = submitted_stays c s
taken_stays (Suspect set) s = record { nodes = refl; node = refl; marked = refl; marked_end = refl; running = refl }
taken_stays Tick s = ticked_stays s
taken_stays Advance s = advanced_stays s
taken_stays (Hear m) s = either s _ s (m.to == s.node) (body_stays m.from m.body s) (itself s)

-- whatever a node is told, it marks nothing
pub input_stays : (input : Input Message) (s : NodeState) → StaysMarked s (node_step input s)
unfolding node_step
input_stays input s = further s (taken_in input s) _ (taken_stays input s) (settle_stays (taken_in input s))

-- a node after its opening is who it is, with what it was opened with marked and no group running
pub started_stays : (n p : ℕ) (promise : List Entry) (next : ℕ) → StaysMarked (restored n p promise next) (started n p promise next)
unfolding started
started_stays n p promise next = restate_all_stays (open_instances (restored n p promise next)) (restored n p promise next)
