-- A node's step stages only lawful facts of open instances, and so does whatever happens at a node opened over any facts.
use Rattle.std.proofs.Common.{◌≡◌, ℕ, ◌+◌, ◌-◌, ◌<◌, zero, suc, inl, Bool, true, false, ◌==◌, nat_lt, if◌then◌else◌, List, [], ◌∷◌, ◌++◌, length, length-append, take, drop, take-append-drop, get_or, map, find, Option, None, Some, is_none, option_map, Contains, refl, ap, sym, ◌∙◌, subst, arith, append-nil, append_assoc, le_of_suc-le-suc, ltb-true}
use Rattle.std.specs.Option.{option_map_or}
use Rattle.std.proofs.lemmas.Option.{none-some, same_Some}
use Rattle.std.proofs.lemmas.List.{take_at}
use Rattle.rr_types.specs.declared.command.Reply.{Reply}
use Rattle.rr_types.specs.declared.fact.Fact.{Fact}
use Rattle.rr_types.specs.declared.promise.Entry.{Entry}
use Rattle.rr_types.specs.declared.message.Body.{Body}
use Rattle.rr_types.specs.declared.message.Message.{Message}
use Rattle.rr_types.specs.Promises as promises
use Rattle.rr_types.specs.Promises.{promise_of, take_on, take_on_all, all_fit}
use Rattle.rr_types.specs.Standings.{round_of}
use Rattle.rr_types.specs.Registry.{has_request, reply_of}
use Rattle.rr_model.specs.World as world
use Rattle.rr_model.specs.NodeState as node
use Rattle.rr_model.specs.Lawful.{Heard, IsBacked}
use Rattle.rr_model.specs.World.{nothing_heard}
use Rattle.rr_model.specs.NodeState.{NodeState, Row, Owed, row_of, open_instances}
use Rattle.rr_types.specs.declared.input.Input.{Input}
use Rattle.rr_model.specs.NodeStep.{node_step, taken_in, group_taken, group_put_back, marked_running, may_leave, without_first_leaving, message_left, acknowledged, promised_row, restored, started}
use Rattle.rr_model.specs.NodeDue.{settle}
use Rattle.rr_model.specs.NodeLaws.{IsOfSubmitted, AreLawful, StateEvent, Told, Grouped, PutBack, Marked, Left, Answered, after_event, heard_input, heard_after, IsInputOfNodes, IsEventOfNodes, AreEventsOfNodes, facts_of_input, facts_of_event, StagesOnlyLawful, IsLawfulNode, HasRound, IsTruthful, StaysTruthful, IsTruthfulNode}
use Rattle.rr_model.specs.NodeOpens.{AreOfOpen}
use Rattle.rr_model.proofs.Promised.{standing_in-promise_of}
use Rattle.rr_model.proofs.NodeRows.{stands, stands-promised}
use Rattle.rr_model.proofs.NodeTallies.{IsHeardTally, nothing_tallied}
use Rattle.rr_model.proofs.NodeBits.{no_member_of_none}
use Rattle.rr_model.proofs.NodeBacks.{IsBackedRow, all_at, fitting_backed, IsBackedAt, IsTrulyOwed, backed_below, backed_free}
use Rattle.rr_model.proofs.NodeKnows.{in_flight, Knows, Goes, knows_alike, goes_on}
use Rattle.rr_model.proofs.NodeEnters.{restate_all_alike}
use Rattle.rr_model.proofs.NodeSettles.{settle_goes}
use Rattle.rr_model.proofs.NodePrefixes.{same_prefix, held_has_reply}
use Rattle.rr_model.proofs.NodeHears.{input_goes}

-- a node's step stages lawful facts
pub step_goes : (X : Type 0) (n p : ℕ) (facts : List Fact) (h : Heard) (s : NodeState) (input : Input Message) → IsInputOfNodes n input → Knows X n p facts h s → Goes X n p facts (heard_input p h input) s (node_step input s)
unfolding node_step
step_goes X n p facts h s input x K = goes_on X n p facts (heard_input p h input) s (taken_in input s) (settle (taken_in input s)) (input_goes X n p facts h s input x K) (λ all A. settle_goes X n p all (heard_input p h input) (taken_in input s) A)

pub drop_front : {A : Type 0} → (xs ys : List A) → drop (length xs) (xs ++ ys) ≡ ys
drop_front [] ys = refl
drop_front (x ∷ xs) ys = drop_front xs ys

-- the facts behind those staged before are those that the step staged
pub record Steps (X : Type 0) (n p : ℕ) (facts : List Fact) (h : Heard) (s t : NodeState) : Type 0 where
  pub behind : t.staged ≡ s.staged ++ drop (length s.staged) t.staged
  pub lawful : AreLawful n p facts h (drop (length s.staged) t.staged)
  pub low : AreOfOpen facts (drop (length s.staged) t.staged)
  pub knows : Knows X n p (facts ++ drop (length s.staged) t.staged) h t
  pub running : t.running ≡ s.running
  pub marked_end : t.marked_end ≡ s.marked_end

pub steps : (X : Type 0) (n p : ℕ) (facts : List Fact) (h : Heard) (s t : NodeState) → Goes X n p facts h s t → Steps X n p facts h s t
steps X n p facts h s t g =
    let e : drop (length s.staged) t.staged ≡ g.more = ap (drop (length s.staged)) g.staged ∙ drop_front s.staged g.more in
    record {
      behind = g.staged ∙ ap (λ z. s.staged ++ z) (sym e);
      lawful = subst (λ z. AreLawful n p facts h z) (sym e) g.lawful;
      low = subst (λ z. AreOfOpen facts z) (sym e) g.low;
      knows = subst (λ z. Knows X n p (facts ++ z) h t) (sym e) g.knows;
      running = g.running;
      marked_end = g.marked_end;
    }

take_all_on : (es : List Entry) (xs ys : List Fact) → take_on_all (take_on_all es xs) ys ≡ take_on_all es (xs ++ ys)
take_all_on es [] ys = refl
take_all_on es (x ∷ xs) ys = take_all_on (take_on es x) xs ys

-- facts moved between the staged ones, the running group and the marked ones
moved_knows : (X : Type 0) (n p : ℕ) (facts : List Fact) (h : Heard) (s t : NodeState) (kept : List Fact) → t.nodes ≡ s.nodes → t.node ≡ s.node → t.rows ≡ s.rows → t.pool ≡ s.pool → t.owed ≡ s.owed → facts ≡ kept ++ (in_flight t.running ++ t.staged) → t.marked_end ≡ length kept → t.marked ≡ promise_of kept → Knows X n p facts h s → Knows X n p facts h t
moved_knows X n p facts h s t kept a b r q o w c m K = record {
  nodes = a ∙ K.nodes;
  node = b ∙ K.node;
  standings = λ i. ap (λ z. stands (row_of z i)) r ∙ K.standings i;
  pooled = λ d x. K.pooled d (subst (λ z. Contains z d) q x);
  tallied = λ i row e. K.tallied i row (ap (λ z. row_of z i) (sym r) ∙ e);
  kept = kept;
  whole = w;
  count = c;
  promise = m;
  backed = λ x i row e. K.backed x i row (ap (λ z. row_of z i) (sym r) ∙ e);
  owed = λ x d y. K.owed x d (subst (λ z. Contains z d) o y);
}

marked_knows : (X : Type 0) (n p : ℕ) (facts : List Fact) (h : Heard) (s : NodeState) → Knows X n p facts h s → Knows X n p facts h (marked_running s)
unfolding marked_running
marked_knows X n p facts h s K = at s.running refl
  where
    at : (o : Option (List Fact)) → s.running ≡ o → Knows X n p facts h (option_map_or (λ fs. record s { running = None; marked = take_on_all s.marked fs; marked_end = s.marked_end + length fs }) o s)
    at None e = K
    at (Some fs) e = moved_knows X n p facts h s (record s { running = None; marked = take_on_all s.marked fs; marked_end = s.marked_end + length fs }) (K.kept ++ fs) refl refl refl refl refl
        (K.whole ∙ ap (λ z. K.kept ++ (in_flight z ++ s.staged)) e ∙ sym (append_assoc K.kept fs s.staged))
        (let c : s.marked_end ≡ length K.kept = K.count in let l : length (K.kept ++ fs) ≡ length K.kept + length fs = length-append K.kept fs in omega arith)
        (ap (λ z. take_on_all z fs) K.promise ∙ take_all_on [] K.kept fs)
        K

grouped_knows : (X : Type 0) (n p : ℕ) (facts : List Fact) (h : Heard) (s : NodeState) → Knows X n p facts h s → Knows X n p facts h (if is_none s.running then group_taken s else s)
unfolding group_taken
grouped_knows X n p facts h s K = at s.running refl
  where
    at : (o : Option (List Fact)) → s.running ≡ o → Knows X n p facts h (if is_none o then record s { running = Some (take 64 s.staged); staged = drop 64 s.staged } else s)
    at None e = moved_knows X n p facts h s (record s { running = Some (take 64 s.staged); staged = drop 64 s.staged }) K.kept refl refl refl refl refl
        (K.whole ∙ ap (λ z. K.kept ++ (in_flight z ++ s.staged)) e ∙ ap (λ z. K.kept ++ z) (sym (take-append-drop 64 s.staged)))
        K.count K.promise K
    at (Some fs) e = K

put_back_knows : (X : Type 0) (n p : ℕ) (facts : List Fact) (h : Heard) (s : NodeState) → Knows X n p facts h s → Knows X n p facts h (group_put_back s)
unfolding group_put_back
put_back_knows X n p facts h s K = moved_knows X n p facts h s _ K.kept refl refl refl refl refl K.whole K.count K.promise K

-- what is owed behind a message that left was owed before
pub still_owed : (marked_end : ℕ) (os : List Owed) (o : Owed) → Contains (without_first_leaving marked_end os) o → Contains os o
still_owed marked_end [] o c = c
still_owed marked_end (x ∷ xs) o c = at (still_owed marked_end xs o) (may_leave marked_end x) c
  where
    later : Contains xs o → Contains (x ∷ xs) o
    later d = (suc d.0, omega arith, d.2)

    head : (k : ℕ) → k < length (x ∷ without_first_leaving marked_end xs) → get_or (x ∷ without_first_leaving marked_end xs) k o ≡ o → (Contains (without_first_leaving marked_end xs) o → Contains xs o) → Contains (x ∷ xs) o
    head zero l e ih = (0, omega arith, e)
    head (suc k) l e ih = later (ih (k, le_of_suc-le-suc l, e))

    at : (Contains (without_first_leaving marked_end xs) o → Contains xs o) → (b : Bool) → Contains (if b then xs else x ∷ without_first_leaving marked_end xs) o → Contains (x ∷ xs) o
    at ih true d = later d
    at ih false d = head d.0 d.1 d.2 ih

left_knows : (X : Type 0) (n p : ℕ) (facts : List Fact) (h : Heard) (s : NodeState) → Knows X n p facts h s → Knows X n p facts h (message_left s)
left_knows X n p facts h s K = knows_alike X n p facts h s (message_left s) (record { nodes = refl; node = refl; rows = refl; pool = refl; staged = refl; running = refl; marked = refl; marked_end = refl; owed = λ x o c. inl (still_owed s.marked_end s.owed o c) }) K

answered_knows : (X : Type 0) (n p : ℕ) (facts : List Fact) (h : Heard) (s : NodeState) → Knows X n p facts h s → Knows X n p facts h (acknowledged s)
answered_knows X n p facts h s K = knows_alike X n p facts h s (acknowledged s) (record { nodes = refl; node = refl; rows = refl; pool = refl; staged = refl; running = refl; marked = refl; marked_end = refl; owed = λ x o c. inl c }) K

silent : (X : Type 0) (n p : ℕ) (facts : List Fact) (h : Heard) (s : NodeState) → Knows X n p facts h s → Knows X n p (facts ++ []) h s
silent X n p facts h s K = subst (λ z. Knows X n p z h s) (sym (append-nil facts)) K

-- whatever happens at a node that knows what it should
stages_lawful : (X : Type 0) (n p : ℕ) (facts : List Fact) (h : Heard) (s : NodeState) (es : List StateEvent) → AreEventsOfNodes n es → Knows X n p facts h s → StagesOnlyLawful n p facts h s es
stages_lawful X n p facts h s [] x K = tt
stages_lawful X n p facts h s (Told input ∷ es) x K =
    let g : Steps X n p facts (heard_input p h input) s (node_step input s) = steps X n p facts (heard_input p h input) s (node_step input s) (step_goes X n p facts h s input x.0 K) in
    (g.behind, g.lawful, stages_lawful X n p (facts ++ facts_of_input s input) (heard_input p h input) (node_step input s) es x.1 g.knows)
stages_lawful X n p facts h s (Grouped ∷ es) x K = (tt, tt, stages_lawful X n p (facts ++ []) h (if is_none s.running then group_taken s else s) es x.1 (silent X n p facts h _ (grouped_knows X n p facts h s K)))
stages_lawful X n p facts h s (PutBack ∷ es) x K = (tt, tt, stages_lawful X n p (facts ++ []) h (group_put_back s) es x.1 (silent X n p facts h _ (put_back_knows X n p facts h s K)))
stages_lawful X n p facts h s (Marked ∷ es) x K = (tt, tt, stages_lawful X n p (facts ++ []) h (marked_running s) es x.1 (silent X n p facts h _ (marked_knows X n p facts h s K)))
stages_lawful X n p facts h s (Left ∷ es) x K = (tt, tt, stages_lawful X n p (facts ++ []) h (message_left s) es x.1 (silent X n p facts h _ (left_knows X n p facts h s K)))
stages_lawful X n p facts h s (Answered ∷ es) x K = (tt, tt, stages_lawful X n p (facts ++ []) h (acknowledged s) es x.1 (silent X n p facts h _ (answered_knows X n p facts h s K)))

promised_tally : (n : ℕ) (next : ℕ) (es : List Entry) (i : ℕ) (row : Row) → row_of (map (promised_row next) es) i ≡ Some row → IsHeardTally n [] i (round_of (Some row.standing)) row.tally
promised_tally n next [] i row e = absurd (none-some row e)
promised_tally n next (x ∷ es) i row e = at (promised_tally n next es i row) (x.instance == i) e
  where
    at : (row_of (map (promised_row next) es) i ≡ Some row → IsHeardTally n [] i (round_of (Some row.standing)) row.tally) → (b : Bool) → (if b then Some (promised_row next x) else row_of (map (promised_row next) es) i) ≡ Some row → IsHeardTally n [] i (round_of (Some row.standing)) row.tally
    at ih true y = subst (λ (z : Row). IsHeardTally n [] i (round_of (Some z.standing)) z.tally) (same_Some _ row y) (nothing_tallied n [] i (round_of (Some x.standing)) no_member_of_none)
    at ih false y = ih y

promised_backing : (next : ℕ) (es : List Entry) (i : ℕ) (row : Row) → row_of (map (promised_row next) es) i ≡ Some row → row.backing ≡ all_at (next - 1)
promised_backing next [] i row e = absurd (none-some row e)
promised_backing next (x ∷ es) i row e = at (promised_backing next es i row) (x.instance == i) e
  where
    at : (row_of (map (promised_row next) es) i ≡ Some row → row.backing ≡ all_at (next - 1)) → (b : Bool) → (if b then Some (promised_row next x) else row_of (map (promised_row next) es) i) ≡ Some row → row.backing ≡ all_at (next - 1)
    at ih true y = ap (λ (z : Row). z.backing) (sym (same_Some _ row y))
    at ih false y = ih y

-- what is known of the facts of an opening: that they fit
abbrev pub Fitting : ℕ → ℕ → List Fact → Type 0
Fitting n p facts = all_fit n p [] facts ≡ true

-- a node that knows its facts and nothing else knows what it should
pub restored_knows : (n p : ℕ) (facts : List Fact) → Knows (Fitting n p facts) n p facts nothing_heard (restored n p (promise_of facts) (length facts))
restored_knows n p facts = record {
  nodes = refl;
  node = refl;
  standings = λ i. stands-promised (length facts) (promise_of facts) i ∙ standing_in-promise_of facts i;
  pooled = λ c x. let l : x.0 < 0 = x.1 in absurd (omega arith);
  tallied = λ i row e. promised_tally n (length facts) (promise_of facts) i row e;
  kept = facts;
  whole = sym (append-nil facts);
  count = refl;
  promise = refl;
  backed = λ x i row e. subst (λ b. IsBackedRow facts i b row.standing) (sym (promised_backing (length facts) (promise_of facts) i row e))
      (fitting_backed n p facts x i row.standing (sym (standing_in-promise_of facts i) ∙ sym (stands-promised (length facts) (promise_of facts) i) ∙ ap stands e));
  owed = λ x o c. let l : c.0 < 0 = c.1 in absurd (omega arith);
}

pub started_knows : (n p : ℕ) (facts : List Fact) → Knows (Fitting n p facts) n p facts nothing_heard (started n p (promise_of facts) (length facts))
unfolding started
started_knows n p facts =
    let s : NodeState = restored n p (promise_of facts) (length facts) in
    knows_alike (Fitting n p facts) n p facts nothing_heard s _ (restate_all_alike (Fitting n p facts) n p facts nothing_heard (open_instances s) s (restored_knows n p facts)) (restored_knows n p facts)

-- a node, opened over any facts, stages only lawful facts, whatever happens at it
pub lawful_node : (n p : ℕ) (facts : List Fact) → IsLawfulNode n p facts
lawful_node n p facts es x = stages_lawful (Fitting n p facts) n p facts nothing_heard (started n p (promise_of facts) (length facts)) es x (started_knows n p facts)

-- what is found is there, and passes
pub found_passes : {A : Type 0} → (f : A → Bool) (xs : List A) (x : A) → find f xs ≡ Some x → Contains xs x × (f x ≡ true)
found_passes f [] x e = absurd (none-some x e)
found_passes f (y ∷ ys) x e = at (found_passes f ys x) (f y) refl e
  where
    at : (find f ys ≡ Some x → Contains ys x × (f x ≡ true)) → (b : Bool) → f y ≡ b → (if b then Some y else find f ys) ≡ Some x → Contains (y ∷ ys) x × (f x ≡ true)
    at ih true a z = ((0, omega arith, same_Some y x z), ap f (sym (same_Some y x z)) ∙ a)
    at ih false a z = let c : Contains ys x × (f x ≡ true) = ih z in ((suc (c.0).0, (let l : (c.0).0 < length ys = (c.0).1 in omega arith), (c.0).2), c.1)

backed_marked : (facts : List Fact) (m : ℕ) (k : Option ℕ) (b : Body) → HasRound b → option_map_or (λ j. nat_lt j m) k true ≡ true → IsBackedAt facts k b → IsBacked b (take m facts)
backed_marked facts m None b r l x = backed_free b (take m facts) x
backed_marked facts m (Some k) b r l x = backed_below facts k m b (ltb-true _ _ l) (λ i j e. subst HasRound e r) x

module _ (X : Type 0) (known : X) (n p : ℕ) where
  leaving : (facts : List Fact) (h : Heard) (s : NodeState) → Knows X n p facts h s → (m : Message) (o : Option Owed) → find (may_leave s.marked_end) s.owed ≡ o → option_map (λ (z : Owed). z.message) o ≡ Some m → HasRound m.body → (m.from ≡ p) × IsBacked m.body (take s.marked_end facts) × IsOfSubmitted m.body h.commands
  leaving facts h s K m None e x r = absurd (none-some m x)
  leaving facts h s K m (Some o) e x r =
      let found : Contains s.owed o × (may_leave s.marked_end o ≡ true) = found_passes (may_leave s.marked_end) s.owed o e in
      let true' : IsTrulyOwed p facts h o = K.owed known o found.0 in
      let is : o.message ≡ m = same_Some o.message m x in
      subst (λ (z : Message). (z.from ≡ p) × IsBacked z.body (take s.marked_end facts) × IsOfSubmitted z.body h.commands) is
      (true'.from, backed_marked facts s.marked_end o.backing o.message.body (subst (λ (z : Message). HasRound z.body) (sym is) r) found.1 true'.backed, true'.submitted)

  owed_backed : (facts : List Fact) (k : ℕ) (b : Body) (backing : Option ℕ) → backing ≡ Some k → HasRound b → IsBackedAt facts backing b → IsBacked b (take (k + 1) facts)
  owed_backed facts k b backing e r x = backed_below facts k (k + 1) b (omega arith) (λ i j y. subst HasRound y r) (subst (λ z. IsBackedAt facts z b) e x)

  prefix_is : (facts : List Fact) (h : Heard) (s : NodeState) → (K : Knows X n p facts h s) → node.decided_prefix s ≡ world.decided_prefix K.kept
  prefix_is facts h s K = ap (promises.decided_from 0) K.promise ∙ same_prefix K.kept

  pub moment : (facts : List Fact) (h : Heard) (s : NodeState) → Knows X n p facts h s → IsTruthful p facts h s
  moment facts h s K =
      let front : take s.marked_end facts ≡ K.kept = ap (take s.marked_end) K.whole ∙ take_at K.kept (in_flight s.running ++ s.staged) s.marked_end (sym K.count) in
      record {
        together = K.whole ∙ ap (λ z. z ++ (in_flight s.running ++ s.staged)) (sym front);
        promise = K.promise ∙ ap promise_of (sym front);
        owed = λ o k c e r. owed_backed facts k o.message.body o.backing e r (K.owed known o c).backed;
        leaving = λ m e r. leaving facts h s K m (find (may_leave s.marked_end) s.owed) refl e r;
        prefix = prefix_is facts h s K ∙ ap world.decided_prefix (sym front);
        answering = λ q e. subst (λ z. (reply : Reply) × (reply_of z q ≡ Some reply)) (prefix_is facts h s K ∙ ap world.decided_prefix (sym front)) (held_has_reply (node.decided_prefix s) q (found_passes (λ z. has_request (node.decided_prefix s) z) s.waiting q e).1);
      }

  pub event_knows : (facts : List Fact) (h : Heard) (s : NodeState) (e : StateEvent) → IsEventOfNodes n e → Knows X n p facts h s → Knows X n p (facts ++ facts_of_event s e) (heard_after p h e) (after_event s e)
  event_knows facts h s (Told input) x K = (steps X n p facts (heard_input p h input) s (node_step input s) (step_goes X n p facts h s input x K)).knows
  event_knows facts h s Grouped x K = silent X n p facts h _ (grouped_knows X n p facts h s K)
  event_knows facts h s PutBack x K = silent X n p facts h _ (put_back_knows X n p facts h s K)
  event_knows facts h s Marked x K = silent X n p facts h _ (marked_knows X n p facts h s K)
  event_knows facts h s Left x K = silent X n p facts h _ (left_knows X n p facts h s K)
  event_knows facts h s Answered x K = silent X n p facts h _ (answered_knows X n p facts h s K)

  stays : (facts : List Fact) (h : Heard) (s : NodeState) (es : List StateEvent) → AreEventsOfNodes n es → Knows X n p facts h s → StaysTruthful p facts h s es
  stays facts h s [] x K = moment facts h s K
  stays facts h s (e ∷ es) x K = (moment facts h s K, stays (facts ++ facts_of_event s e) (heard_after p h e) (after_event s e) es x.1 (event_knows facts h s e x.0 K))

-- a node, opened over facts that fit, says only what its facts back, whatever happens at it
pub truthful_node : (n p : ℕ) (facts : List Fact) → all_fit n p [] facts ≡ true → IsTruthfulNode n p facts
truthful_node n p facts fit es x = stays (Fitting n p facts) fit n p facts nothing_heard (started n p (promise_of facts) (length facts)) es x (started_knows n p facts)
