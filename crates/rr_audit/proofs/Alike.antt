-- A replay and the world stay alike over each event of a tape run.
use Rattle.std.proofs.Common.{◌≡◌, ◌≢◌, ◌⊎◌, inl, inr, ℕ, zero, suc, ◌+◌, ◌<◌, ◌≤◌, Bool, true, false, eqb, if◌then◌else◌, List, [], ◌∷◌, ◌++◌, length, map, Contains, Option, None, Some, refl, sym, ◌∙◌, ap, subst, arith, append-nil}
use Rattle.std.specs.Prelude.{slice_get, slice_set, IsSome}
use Rattle.std.specs.Option.{option_map, option_map_or, option_and_then}
use Rattle.std.specs.List.{AllByRecursion, flat_map, range_with_len}
use Rattle.std.proofs.lemmas.Bool.{eqb-true}
use Rattle.std.proofs.lemmas.Option.{same_Some}
use Rattle.rr_types.specs.declared.command.Command.{Command}
use Rattle.rr_types.specs.declared.command.RequestNo.{RequestNo}
use Rattle.rr_types.specs.declared.command.Reply.{Reply}
use Rattle.rr_types.specs.declared.fact.Fact.{Fact}
use Rattle.rr_types.specs.declared.message.Message.{Message}
use Rattle.rr_types.specs.Inputs.{told_as, message_on}
use Rattle.rr_model.specs.Lawful.{Heard}
use Rattle.rr_model.specs.Laws.{after_steps}
use Rattle.rr_model.specs.NodeInWorld.{IsInWorld, LeavesTheGroup, sent_by_event, told_by_event}
use Rattle.rr_model.specs.NodeLaws.{StateEvent, Told, Grouped, PutBack, Marked, Left, Answered, after_event, heard_after, facts_of_event, facts_of_input}
use Rattle.rr_model.specs.NodeReached.{IsReached, Happened, IsProperEvent, NamesRounds}
use Rattle.rr_model.specs.NodeState.{NodeState}
use Rattle.rr_types.specs.declared.input.Input.{Input}
use Rattle.rr_types.specs.declared.input.Input.TheVariants as node
use Rattle.rr_model.specs.NodeStep.{next_leaving, marked_running}
use Rattle.rr_model.specs.NodeWorld.{steps_of_event, step_of_input, told_reply, MayCome}
use Rattle.rr_model.specs.World as world
use Rattle.rr_model.specs.World.{World, Step, Stage, Settle, Sent, Acknowledged, after_step, IsRunFrom}
use Rattle.rr_model.proofs.Frames.{steps_alone, stays_in_world, event_at, event_says}
use Rattle.rr_model.proofs.Laws.{after_steps-append}
use Rattle.rr_model.proofs.NodeInWorld.{reached_in_world, reached_marks, settles_in_world}
use Rattle.rr_model.proofs.NodeReached.{reached_still}
use Rattle.rr_model.proofs.NodeRounds.{reached_names_rounds, reached_may_leave}
use Rattle.rr_text.specs.declared.tape_event.TapeEvent.{TapeEvent}
use Rattle.rr_text.specs.declared.tape_event.Recorded.{Recorded}
use Rattle.rr_text.specs.declared.tape_event.Recorded.TheVariants as tape
use Rattle.rr_text.specs.Taped.{of_node}
use Rattle.rr_audit.specs.Audits.{Replay, IsNextOf, IsNextAt, IsNext, sent_by, told_by, submitted_by, replayed}

-- ---- lists

-- the element at place q of a list, of which the one at p was replaced
get_replaced : {X : Type 0} (xs : List X) (p q : ℕ) (x y : X) → slice_get (slice_set xs p y) q ≡ Some x → ((q ≡ p) × (x ≡ y)) ⊎ ((q ≢ p) × (slice_get xs q ≡ Some x))
get_replaced [] p q x y e = absurd (let no : None ≡ Some x = e in cc)
get_replaced (z ∷ xs) zero zero x y e = inl (refl, let f : Some y ≡ Some x = e in cc)
get_replaced (z ∷ xs) zero (suc q) x y e = inr (λ f. absurd (omega (arith, f)), e)
get_replaced (z ∷ xs) (suc p) zero x y e = inr (λ f. absurd (omega (arith, f)), e)
get_replaced (z ∷ xs) (suc p) (suc q) x y e = elim (get_replaced xs p q x y e) [ inl h ↦ inl (omega (arith, h.0), h.1) | inr h ↦ inr (λ f. h.0 (omega (arith, f)), h.1) ]

all_parts : {X : Type 0} (P : X → Type 0) (xs ys : List X) → AllByRecursion P xs → AllByRecursion P ys → AllByRecursion P (xs ++ ys)
all_parts P [] ys h k = k
all_parts P (x ∷ xs) ys h k = (h.0, all_parts P xs ys h.1 k)

all_at : {X : Type 0} (P : X → Type 0) (xs : List X) (k : ℕ) (x : X) → AllByRecursion P xs → slice_get xs k ≡ Some x → P x
all_at P [] k x h e = absurd (let no : None ≡ Some x = e in cc)
all_at P (y ∷ xs) zero x h e = let f : y ≡ x = (let g : Some y ≡ Some x = e in cc) in subst P f h.0
all_at P (y ∷ xs) (suc k) x h e = all_at P xs k x h.1 e

contains_at : {X : Type 0} (xs : List X) (k : ℕ) (x : X) → slice_get xs k ≡ Some x → Contains xs x
contains_at [] k x e = absurd (let no : None ≡ Some x = e in cc)
contains_at (y ∷ xs) zero x e = (0, omega arith, let f : y ≡ x = (let g : Some y ≡ Some x = e in cc) in f)
contains_at (y ∷ xs) (suc k) x e = let r = contains_at xs k x e in (suc r.0, omega (arith, r.1), r.2)

-- ---- one node

-- node p of n was reached in this state, and the world has it so
pub record IsThere (n p : ℕ) (s : NodeState) (w : World) : Type 0 where
  pub facts : List Fact
  pub heard : Heard
  pub reached : IsReached n p facts heard s
  pub in_world : IsInWorld false n p facts heard s w

-- the steps of what a node does, and the node behind them
record Goes (n p : ℕ) (s : NodeState) (does : StateEvent) (w : World) : Type 0 where
  run : IsRunFrom n w (steps_of_event p s does)
  there : IsThere n p (after_event s does) (after_steps w (steps_of_event p s does))

-- it leaves the running group alone
leaves : (n p : ℕ) (s : NodeState) (does : StateEvent) (w : World) → IsThere n p s w → IsProperEvent n does → LeavesTheGroup does → MayCome w p s does → Goes n p s does w
leaves n p s does w t proper alone may =
    let r = reached_in_world n p t.facts t.heard s t.reached false does proper alone w t.in_world may in
    record {
      run = r.0;
      there = record { facts = t.facts ++ facts_of_event s does; heard = heard_after p t.heard does; reached = Happened t.facts t.heard s does t.reached proper; in_world = r.1 };
    }

-- it marks the running group
marks : (n p : ℕ) (s : NodeState) (group : List Fact) (w : World) → IsThere n p s w → s.running ≡ Some group → Goes n p s Marked w
marks n p s group w t runs =
    let settle : List Step = Settle p (length group) ∷ [] in
    let same : Settle p (length group) ∷ [] ≡ steps_of_event p s Marked = ap (λ (o : Option (List Fact)). Settle p (length (option_map_or (λ g. g) o [])) ∷ []) (sym runs) in
    let r = settles_in_world n p t.facts t.heard s w group runs t.in_world in
    record {
      run = subst (λ (steps : List Step). IsRunFrom n w steps) same r.0;
      there = record {
        facts = t.facts;
        heard = t.heard;
        reached = reached_still n p t.facts t.heard s Marked t.reached tt refl;
        in_world = subst (λ (steps : List Step). IsInWorld false n p t.facts t.heard (marked_running s) (after_steps w steps)) same
            (reached_marks n p t.facts t.heard s t.reached (after_steps w (Settle p (length group) ∷ [])) r.1);
      };
    }

-- what runs is some group
group_is : {A : Type 0} (o : Option A) → IsSome o → (x : A) × (o ≡ Some x)
group_is None h = absurd (let no : false ≡ true = h in cc)
group_is (Some x) h = (x, refl)

-- ---- what an event of the tape is

-- a message that is heard by its number is on the wire, and for the node
heard_on : (wire : List Message) (p k : ℕ) (told : Input Message) → told_as (message_on wire p) (node.Hear k) ≡ Some told → (m : Message) × (slice_get wire k ≡ Some m) × (m.to ≡ p) × (node.Hear m ≡ told)
heard_on wire p k told h = by (slice_get wire k) refl h
  where
    own : (m : Message) (b : Bool) → eqb m.to p ≡ b → option_map node.Hear (if b then Some m else None) ≡ Some told → (m.to ≡ p) × (node.Hear m ≡ told)
    own m true is e = (eqb-true m.to p is, same_Some (node.Hear m) told e)
    own m false is e = absurd (let no : None ≡ Some told = e in cc)

    by : (o : Option Message) → slice_get wire k ≡ o → option_map node.Hear (option_and_then (λ m. if eqb m.to p then Some m else None) o) ≡ Some told
        → (m : Message) × (slice_get wire k ≡ Some m) × (m.to ≡ p) × (node.Hear m ≡ told)
    by None at e = absurd (let no : None ≡ Some told = e in cc)
    by (Some m) at e = let o = own m (eqb m.to p) refl e in (m, at, o.0, o.1)

-- steps that only stage facts submit nothing
staged : (p : ℕ) (facts : List Fact) (w : World) → (after_steps w (map (Stage p) facts)).submitted ≡ w.submitted
staged p [] w = refl
staged p (f ∷ facts) w = staged p facts (after_step w (Stage p f))

-- an input submits what its own step does
input_submits : (p : ℕ) (s : NodeState) (input : Input Message) (w : World) → (after_steps w (steps_of_event p s (Told input))).submitted ≡ (after_steps w (step_of_input p input)).submitted
input_submits p s input w =
    ap (λ (v : World). v.submitted) (after_steps-append w (step_of_input p input) (map (Stage p) (facts_of_input s input)))
    ∙ staged p (facts_of_input s input) (after_steps w (step_of_input p input))

hearing_submits : (b : Bool) (p : ℕ) (m : Message) (w : World) → (after_steps w (if b then world.Hear p m ∷ [] else [])).submitted ≡ w.submitted ++ []
hearing_submits true p m w = sym (append-nil w.submitted)
hearing_submits false p m w = sym (append-nil w.submitted)

-- a node does this by an event of the tape: it may, and sends, tells and submits what the tape has
record Does (n : ℕ) (e : TapeEvent) (s : NodeState) (w : World) (does : StateEvent) : Type 0 where
  goes : Goes n e.node s does w
  sent : sent_by_event s does ≡ sent_by e
  told : told_by_event e.node s does ≡ told_by e
  submitted : (after_steps w (steps_of_event e.node s does)).submitted ≡ w.submitted ++ submitted_by e

-- a message is from one of the n nodes, and names rounds above 0
abbrev pub IsProper : ℕ → Message → Type 0
IsProper n m = (m.from < n) × NamesRounds m.body

module _ (n : ℕ) (s : NodeState) (w : World) (wire : List Message) (same : w.wire ≡ wire) (proper : AllByRecursion (IsProper n) wire) where
  -- an input
  input_does : (e : TapeEvent) (input : Input Message) → IsThere n e.node s w → IsProperEvent n (Told input) → MayCome w e.node s (Told input)
      → sent_by e ≡ [] → told_by e ≡ [] → (after_steps w (step_of_input e.node input)).submitted ≡ w.submitted ++ submitted_by e → Does n e s w (Told input)
  input_does e input t good may unsent untold submits = record {
    goes = leaves n e.node s (Told input) w t good tt may;
    sent = sym unsent;
    told = sym untold;
    submitted = input_submits e.node s input w ∙ submits;
  }

  told_does : (p : ℕ) (input : Input ℕ) (told : Input Message) → IsThere n p s w → told_as (message_on wire p) input ≡ Some told → Does n (of_node p (tape.Told input)) s w (Told told)
  told_does p (node.Hear k) told t h =
      let on = heard_on wire p k told h in
      let m = on.0 in
      let good = all_at (IsProper n) wire k m proper on.1 in
      subst (λ (x : Input Message). Does n (of_node p (tape.Told (node.Hear k))) s w (Told x)) on.3 (
      input_does (of_node p (tape.Told (node.Hear k))) (node.Hear m) t good (λ own. subst (λ (ms : List Message). Contains ms m) (sym same) (contains_at wire k m on.1)) refl refl (hearing_submits (eqb m.to p) p m w)
      )
  told_does p (node.Submit c) told t h =
      subst (λ (x : Input Message). Does n (of_node p (tape.Told (node.Submit c))) s w (Told x)) (same_Some (node.Submit c) told h) (input_does (of_node p (tape.Told (node.Submit c))) (node.Submit c) t tt tt refl refl refl)
  told_does p input told t h =
      subst (λ (x : Input Message). Does n (of_node p (tape.Told input)) s w (Told x)) (same_Some _ told h) (input_does (of_node p (tape.Told input)) _ t tt tt refl refl (sym (append-nil w.submitted)))

  -- what the tape has of the node
  recorded_does : (p : ℕ) (what : Recorded) (does : StateEvent) → IsThere n p s w → IsNextOf wire p s what does → Does n (of_node p what) s w does
  recorded_does p (tape.Told input) does t h = subst (λ (d : StateEvent). Does n (of_node p (tape.Told input)) s w d) (sym h.2) (told_does p input h.0 t h.1)
  recorded_does p tape.Take does t h =
      subst (λ (d : StateEvent). Does n (of_node p tape.Take) s w d) (sym h.0) (record { goes = leaves n p s Grouped w t tt tt tt; sent = refl; told = refl; submitted = sym (append-nil w.submitted) })
  recorded_does p tape.Mark does t h =
      let group = group_is s.running h.1 in
      subst (λ (d : StateEvent). Does n (of_node p tape.Mark) s w d) (sym h.0) (record { goes = marks n p s group.0 w t group.1; sent = refl; told = refl; submitted = sym (append-nil w.submitted) })
  recorded_does p (tape.Sent k m) does t h =
      let send : Option Message → List Step = λ o. option_map_or (λ x. world.Send p x ∷ []) o [] in
      subst (λ (d : StateEvent). Does n (of_node p (tape.Sent k m)) s w d) (sym h.0) (record {
        goes = leaves n p s Left w t tt tt (reached_may_leave n p t.facts t.heard s t.reached w);
        sent = ap (λ (o : Option Message). option_map_or (λ x. x ∷ []) o []) h.2;
        told = ap (λ (o : Option Message). option_map_or (λ x. Sent x ∷ []) o []) h.2;
        submitted = ap (λ (o : Option Message). (after_steps w (option_map_or (λ x. world.Send p x ∷ []) o [])).submitted) h.2 ∙ sym (append-nil w.submitted);
      })
  recorded_does p (tape.Acked q reply) does t h =
      let tell : Option RequestNo → List world.Told = λ o. option_map_or (λ x. option_map_or (λ r. Acknowledged p x r ∷ []) (told_reply s x) []) o [] in
      let step : Option RequestNo → List Step = λ o. option_map_or (λ x. option_map_or (λ r. world.Acknowledge p x r ∷ []) (told_reply s x) []) o [] in
      let told : tell (Some q) ≡ Acknowledged p q reply ∷ [] = ap (λ (o : Option Reply). option_map_or (λ r. Acknowledged p q r ∷ []) o []) h.2 in
      let steps : step (Some q) ≡ world.Acknowledge p q reply ∷ [] = ap (λ (o : Option Reply). option_map_or (λ r. world.Acknowledge p q r ∷ []) o []) h.2 in
      subst (λ (d : StateEvent). Does n (of_node p (tape.Acked q reply)) s w d) (sym h.0) (record {
        goes = leaves n p s Answered w t tt tt tt;
        sent = refl;
        told = ap tell h.1 ∙ told;
        submitted = ap (λ (xs : List Step). (after_steps w xs).submitted) (ap step h.1 ∙ steps) ∙ sym (append-nil w.submitted);
      })

  event_does : (e : TapeEvent) (does : StateEvent) → IsThere n e.node s w → IsNextAt wire s e does → Does n e s w does
  event_does e does t h = recorded_does e.node e.what does t h

  -- what it sends is proper
  sent_proper : (e : TapeEvent) (does : StateEvent) → IsThere n e.node s w → IsNextAt wire s e does → AllByRecursion (IsProper n) (sent_by e)
  sent_proper e does t h = by e.what h
    where
      by : (what : Recorded) → IsNextOf wire e.node s what does → AllByRecursion (IsProper n) (sent_by (of_node e.node what))
      by (tape.Sent k m) g =
          let r = reached_names_rounds n e.node t.facts t.heard s t.reached m g.2 in
          ((subst (λ (p : ℕ). p < n) (sym r.0) t.in_world.exists, r.1), tt)
      by _ g = tt

-- ---- all nodes

-- the world has each node as the replay, and both have the same proper messages on the wire
pub record IsAlike (n : ℕ) (r : Replay) (w : World) : Type 0 where
  pub nodes : (p : ℕ) (s : NodeState) → slice_get r.nodes p ≡ Some s → IsThere n p s w
  pub wire : w.wire ≡ r.wire
  pub proper : AllByRecursion (IsProper n) r.wire

-- an event took the world along
pub record Took (n : ℕ) (r : Replay) (e : TapeEvent) (next : IsNext r e) (w : World) : Type 0 where
  pub run : IsRunFrom n w (steps_of_event e.node next.state next.does)
  pub alike : IsAlike n (replayed e next.state next.does r) (after_steps w (steps_of_event e.node next.state next.does))
  pub sent : (after_steps w (steps_of_event e.node next.state next.does)).wire ≡ w.wire ++ sent_by e
  pub told : (after_steps w (steps_of_event e.node next.state next.does)).trace ≡ w.trace ++ told_by e
  pub submitted : (after_steps w (steps_of_event e.node next.state next.does)).submitted ≡ w.submitted ++ submitted_by e

pub takes : (n : ℕ) (r : Replay) (e : TapeEvent) (next : IsNext r e) (w : World) → IsAlike n r w → Took n r e next w
takes n r e next w alike = record {
  run = does.goes.run;
  alike = record {
    nodes = λ q t there. by q t (get_replaced r.nodes p q t (after_event s next.does) there);
    wire = wire ∙ ap (λ (ms : List Message). ms ++ sent_by e) alike.wire;
    proper = all_parts (IsProper n) r.wire (sent_by e) alike.proper (sent_proper n s w r.wire alike.wire alike.proper e next.does t next.next);
  };
  sent = wire;
  told = says.1 ∙ ap (λ (ts : List world.Told). w.trace ++ ts) does.told;
  submitted = does.submitted;
}
  where
    p : ℕ
    p = e.node

    s : NodeState
    s = next.state

    t : IsThere n e.node next.state w
    t = alike.nodes e.node next.state next.here

    does : Does n e next.state w next.does
    does = event_does n next.state w r.wire alike.wire alike.proper e next.does (alike.nodes e.node next.state next.here) next.next

    says : ((after_steps w (steps_of_event e.node next.state next.does)).wire ≡ w.wire ++ sent_by_event next.state next.does) × ((after_steps w (steps_of_event e.node next.state next.does)).trace ≡ w.trace ++ told_by_event e.node next.state next.does)
    says = event_says e.node next.state next.does w

    wire : (after_steps w (steps_of_event e.node next.state next.does)).wire ≡ w.wire ++ sent_by e
    wire = says.0 ∙ ap (λ (ms : List Message). w.wire ++ ms) does.sent

    by : (q : ℕ) (u : NodeState) → ((q ≡ e.node) × (u ≡ after_event next.state next.does)) ⊎ ((q ≢ e.node) × (slice_get r.nodes q ≡ Some u)) → IsThere n q u (after_steps w (steps_of_event e.node next.state next.does))
    by q u (inl is) =
        subst (λ (x : ℕ). IsThere n x u (after_steps w (steps_of_event e.node next.state next.does))) (sym is.0)
        (subst (λ (x : NodeState). IsThere n e.node x (after_steps w (steps_of_event e.node next.state next.does))) (sym is.1) does.goes.there)
    by q u (inr is) =
        let there = alike.nodes q u is.1 in
        record {
          facts = there.facts;
          heard = there.heard;
          reached = there.reached;
          in_world = stays_in_world false n q there.facts there.heard u w (after_steps w (steps_of_event e.node next.state next.does))
              (steps_alone q e.node w (steps_of_event e.node next.state next.does) is.0 (event_at e.node next.state next.does)) there.in_world;
        }
