-- Nodes as a history has them and the world stay alike over each deed, also over stops and starts. The world may keep other
-- facts of a node, by which it stands alike.
use Rattle.std.proofs.Common.{◌≡◌, ◌⊎◌, inl, inr, ℕ, ◌<◌, Bool, true, false, ◌==◌, if◌then◌else◌, List, [], ◌∷◌, ◌++◌, length, map, take, drop, Contains, Option, None, Some, refl, sym, ◌∙◌, ap, subst, arith, append-nil, append_assoc, take-append-drop, eqb-true}
use Rattle.std.specs.Prelude.{IsSome}
use Rattle.std.specs.Option.{option_map, option_map_or}
use Rattle.std.proofs.lemmas.Bool.{eqb-false}
use Rattle.std.proofs.lemmas.List.{take_at}
use Rattle.std.proofs.lemmas.List.Elements.{Contains-append_cases, Contains-append_left, Contains-append_right, Contains-push_cases}
use Rattle.rr_types.specs.declared.command.Command.{Command}
use Rattle.rr_types.specs.declared.command.RequestNo.{RequestNo}
use Rattle.rr_types.specs.declared.command.Reply.{Reply}
use Rattle.rr_types.specs.declared.fact.Fact.{Fact}
use Rattle.rr_types.specs.declared.input.Input.{Input}
use Rattle.rr_types.specs.declared.input.Input.TheVariants as node
use Rattle.rr_types.specs.declared.message.Body.{Body}
use Rattle.rr_types.specs.declared.message.Body.TheVariants.{Decision}
use Rattle.rr_types.specs.declared.message.Message.{Message}
use Rattle.rr_types.specs.declared.promise.Entry.{Entry}
use Rattle.rr_types.specs.Promises.{all_fit, decided_from}
use Rattle.rr_types.specs.Registry.{registry_of}
use Rattle.rr_model.specs.declared.deed.Deed.{Deed}
use Rattle.rr_model.specs.declared.deed.What.{What}
use Rattle.rr_model.specs.declared.deed.What.TheVariants as deed
use Rattle.rr_model.specs.Deeds.{Life, Lives, unmarked_of, lived, after_what, after_deed, sent_of, sent_by, WasSent, IsNextOf, FindsItsFacts, OpensWellAt}
use Rattle.rr_model.specs.Lawful.{Heard}
use Rattle.rr_model.specs.Laws.{after_steps, settled}
use Rattle.rr_model.specs.NodeInWorld.{group_of, IsInWorld, IsDownIn, LeavesTheGroup, AreStepsAt, LeavesAlone}
use Rattle.rr_model.specs.NodeLaws.{StateEvent, Told, Grouped, PutBack, Marked, Left, Answered, after_event, heard_after, facts_of_event, facts_of_input}
use Rattle.rr_model.specs.NodeReached as reached
use Rattle.rr_model.specs.NodeReached.{IsReached, Happened, IsProperEvent, NamesRounds, opened_over}
use Rattle.rr_model.specs.NodeState as state
use Rattle.rr_model.specs.NodeState.{NodeState}
use Rattle.rr_model.specs.NodeStep.{next_leaving, next_acknowledged, marked_running, started}
use Rattle.rr_model.specs.NodeWorld.{steps_of_event, step_of_input, told_reply, MayCome}
use Rattle.rr_model.specs.World as world
use Rattle.rr_model.specs.World.{World, Step, Stage, Settle, GoDown, Restart, Sent, Acknowledged, Reported, nothing_heard, with_at, after_step, IsRunFrom}
use Rattle.rr_model.proofs.Frames.{steps_alone, stays_in_world, stays_down, event_at, event_says}
use Rattle.rr_model.proofs.Invariants.{Invariant, all_said, settled_history, after_all}
use Rattle.rr_model.proofs.Laws.{after_steps-append}
use Rattle.rr_model.proofs.NodeFollows.{at_same}
use Rattle.rr_model.proofs.NodeInWorld.{reached_in_world, reached_marks, settles_in_world, goes_down_in_world}
use Rattle.rr_model.proofs.NodePrefixes.{same_prefix}
use Rattle.rr_model.proofs.NodeReached.{reached_still}
use Rattle.rr_model.proofs.NodeRestarts.{restarts_in_world}
use Rattle.rr_model.proofs.NodeRounds.{reached_names_rounds, reached_may_leave}
use Rattle.rr_model.proofs.Promised.{history_fits}
use Rattle.rr_model.proofs.Shifted.{IsShifted, shifted_on, shifted_fits, shifted_prefix, IsShadow, steps_over, shade_of, shade_is_shadow, in_shade}

-- ---- what deeds say

-- what a deed of node p lets others know
abbrev pub told_of : ℕ → What → List world.Told
told_of p (deed.Sent m) = Sent m ∷ []
told_of p (deed.Acked q reply) = Acknowledged p q reply ∷ []
told_of p (deed.Up promise next) = Reported p (length (decided_from 0 promise)) (registry_of (decided_from 0 promise)) ∷ []
told_of p _ = []

abbrev pub told_by : Deed → List world.Told
told_by d = told_of d.node d.what

-- what a deed submits
abbrev pub submitted_of : What → List Command
submitted_of (deed.Told (node.Submit c)) = c ∷ []
submitted_of _ = []

abbrev pub submitted_by : Deed → List Command
submitted_by d = submitted_of d.what

-- ---- one node

-- node p of n, which has marked these facts, was reached in this state. The world has it so, but that it may keep other
-- facts, by which the node stands alike
pub record IsThere (n p : ℕ) (marked : List Fact) (s : NodeState) (w : World) : Type 0 where
  pub facts : List Fact
  pub heard : Heard
  pub reached : IsReached n p facts heard s
  pub in_world : IsInWorld false n p facts heard s (shade_of p marked w)
  pub shift : IsShifted n p (w.kept p) marked

-- the world has node p of n as the history
abbrev pub IsLifeIn : ℕ → ℕ → Life → World → Option NodeState → Type 0
IsLifeIn n p l w None = IsDownIn p (w.kept p) l.unmarked w × IsShifted n p (w.kept p) l.marked
IsLifeIn n p l w (Some s) = IsThere n p l.marked s w

-- a message is from one of the n nodes, and names rounds above 0
abbrev pub IsProper : ℕ → Message → Type 0
IsProper n m = (m.from < n) × NamesRounds m.body

-- the message says what an instance has decided
abbrev pub SaysDecision : Body → Type 0
SaysDecision (Decision i v) = Unit {0}
SaysDecision body = ⊥

-- the world has all nodes as the history, and its messages, which are proper. It may have more decisions on the wire
pub record IsAlike (n : ℕ) (v : Lives) (w : World) : Type 0 where
  pub lives : (p : ℕ) → IsLifeIn n p (v.life p) w (v.life p).state
  pub wire : (m : Message) → Contains v.wire m → Contains w.wire m
  pub extra : (m : Message) → Contains w.wire m → Contains v.wire m ⊎ SaysDecision m.body
  pub proper : (m : Message) → Contains v.wire m → IsProper n m
  pub sound : Invariant n w

-- the steps of what node p does, its life behind them, and what they say
record Goes (n p : ℕ) (what : What) (l : Life) (w : World) : Type 0 where
  steps : List Step
  run : IsRunFrom n w steps
  own : AreStepsAt p steps
  life : IsLifeIn n p (after_what n p what l) (after_steps w steps) (after_what n p what l).state
  sent : (after_steps w steps).wire ≡ w.wire ++ sent_of what
  told : (after_steps w steps).trace ≡ w.trace ++ told_of p what
  submitted : (after_steps w steps).submitted ≡ w.submitted ++ submitted_of what
  proper : (m : Message) → Contains (sent_of what) m → IsProper n m

-- ---- facts that are kept

staged_keeps : (p : ℕ) (facts : List Fact) (w : World) → (after_steps w (map (Stage p) facts)).kept p ≡ w.kept p
staged_keeps p [] w = refl
staged_keeps p (f ∷ facts) w = staged_keeps p facts (after_step w (Stage p f))

input_keeps : (p : ℕ) (input : Input Message) (w : World) → (after_steps w (step_of_input p input)).kept p ≡ w.kept p
input_keeps p (node.Submit c) w = refl
input_keeps p (node.Hear m) w = at (m.to == p)
  where
    at : (b : Bool) → (after_steps w (if b then world.Hear p m ∷ [] else [])).kept p ≡ w.kept p
    at true = refl
    at false = refl
input_keeps p input w = refl

-- what leaves the running group alone keeps no fact more
keeps_alone : (p : ℕ) (s : NodeState) (e : StateEvent) (w : World) → LeavesTheGroup e → (after_steps w (steps_of_event p s e)).kept p ≡ w.kept p
keeps_alone p s (Told input) w l =
    ap (λ (v : World). v.kept p) (after_steps-append w (step_of_input p input) (map (Stage p) (facts_of_input s input)))
    ∙ staged_keeps p (facts_of_input s input) (after_steps w (step_of_input p input)) ∙ input_keeps p input w
keeps_alone p s Grouped w l = refl
keeps_alone p s PutBack w l = absurd l
keeps_alone p s Marked w l = absurd l
keeps_alone p s Left w l = at (next_leaving s)
  where
    at : (o : Option Message) → (after_steps w (option_map_or (λ m. world.Send p m ∷ []) o [])).kept p ≡ w.kept p
    at None = refl
    at (Some m) = refl
keeps_alone p s Answered w l = at (next_acknowledged s)
  where
    told : (q : RequestNo) (o : Option Reply) → (after_steps w (option_map_or (λ reply. world.Acknowledge p q reply ∷ []) o [])).kept p ≡ w.kept p
    told q None = refl
    told q (Some reply) = refl

    at : (o : Option RequestNo) → (after_steps w (option_map_or (λ q. option_map_or (λ reply. world.Acknowledge p q reply ∷ []) (told_reply s q) []) o [])).kept p ≡ w.kept p
    at None = refl
    at (Some q) = told q (told_reply s q)

-- ---- what is submitted

staged_submits : (p : ℕ) (facts : List Fact) (w : World) → (after_steps w (map (Stage p) facts)).submitted ≡ w.submitted
staged_submits p [] w = refl
staged_submits p (f ∷ facts) w = staged_submits p facts (after_step w (Stage p f))

input_submits : (p : ℕ) (input : Input Message) (w : World) → (after_steps w (step_of_input p input)).submitted ≡ w.submitted ++ submitted_of (deed.Told input)
input_submits p (node.Submit c) w = refl
input_submits p (node.Hear m) w = at (m.to == p)
  where
    at : (b : Bool) → (after_steps w (if b then world.Hear p m ∷ [] else [])).submitted ≡ w.submitted ++ []
    at true = sym (append-nil w.submitted)
    at false = sym (append-nil w.submitted)
input_submits p input w = sym (append-nil w.submitted)

-- ---- each deed

pub none_proper : (n : ℕ) (m : Message) → Contains [] m → IsProper n m
none_proper n m c = absurd (let l : c.0 < 0 = c.1 in omega arith)

-- what may come in the world may come in its shade
may_in_shade : (p : ℕ) (marked : List Fact) (w : World) (s : NodeState) (e : StateEvent) → MayCome w p s e → MayCome (shade_of p marked w) p s e
may_in_shade p marked w s (Told (node.Hear m)) h = h
may_in_shade p marked w s (Told input) h = tt
may_in_shade p marked w s Grouped h = tt
may_in_shade p marked w s PutBack h = tt
may_in_shade p marked w s Marked h = tt
may_in_shade p marked w s Left h = h
may_in_shade p marked w s Answered h = tt

-- an event that leaves the running group alone
module _ (n p : ℕ) (l : Life) (w : World) (s : NodeState) (up : l.state ≡ Some s) (t : IsThere n p l.marked s w) where
  -- steps of the shade are steps of the world
  over : (steps : List Step) → AreStepsAt p steps → IsRunFrom n (shade_of p l.marked w) steps → IsRunFrom n w steps × IsShadow n p (after_steps (shade_of p l.marked w) steps) (after_steps w steps)
  over steps own r = steps_over n p steps (shade_of p l.marked w) w own (shade_is_shadow n p l.marked w t.shift) r

  lives_on : (e : StateEvent) → IsProperEvent n e → LeavesTheGroup e → MayCome w p s e
      → IsRunFrom n w (steps_of_event p s e) × IsLifeIn n p (lived e l) (after_steps w (steps_of_event p s e)) (option_map (λ x. after_event x e) l.state)
  lives_on e proper alone may =
      let steps : List Step = steps_of_event p s e in
      let v : World = shade_of p l.marked w in
      let r = reached_in_world n p t.facts t.heard s t.reached false e proper alone v t.in_world (may_in_shade p l.marked w s e may) in
      let o = over steps (event_at p s e) r.0 in
      let kept : (after_steps v steps).kept p ≡ l.marked = keeps_alone p s e v alone ∙ at_same w.kept p l.marked in
      let there : IsThere n p l.marked (after_event s e) (after_steps w steps) =
      record {
        facts = t.facts ++ facts_of_event s e;
        heard = heard_after p t.heard e;
        reached = Happened t.facts t.heard s e t.reached proper;
        in_world = in_shade n p (t.facts ++ facts_of_event s e) (heard_after p t.heard e) (after_event s e) l.marked (after_steps v steps) (after_steps w steps) o.1 kept r.1;
        shift = subst (IsShifted n p ((after_steps w steps).kept p)) kept o.1.shift;
      } in
      (o.0, subst (λ (o : Option NodeState). IsLifeIn n p (lived e l) (after_steps w (steps_of_event p s e)) (option_map (λ x. after_event x e) o)) (sym up) there)

  told_goes : (input : Input Message) → IsProperEvent n (Told input) → MayCome w p s (Told input) → Goes n p (deed.Told input) l w
  told_goes input proper may =
      let r = lives_on (Told input) proper tt may in
      let says = event_says p s (Told input) w in
      record {
        steps = steps_of_event p s (Told input);
        run = r.0;
        own = event_at p s (Told input);
        life = r.1;
        sent = says.0;
        told = says.1;
        submitted = ap (λ (v : World). v.submitted) (after_steps-append w (step_of_input p input) (map (Stage p) (facts_of_input s input)))
            ∙ staged_submits p (facts_of_input s input) (after_steps w (step_of_input p input)) ∙ input_submits p input w;
        proper = none_proper n;
      }

  took_goes : Goes n p deed.Took l w
  took_goes =
      let r = lives_on Grouped tt tt tt in
      record { steps = []; run = tt; own = tt; life = r.1; sent = sym (append-nil w.wire); told = sym (append-nil w.trace); submitted = sym (append-nil w.submitted); proper = none_proper n }

  sent_goes : (m : Message) → next_leaving s ≡ Some m → Goes n p (deed.Sent m) l w
  sent_goes m e =
      let r = lives_on Left tt tt (reached_may_leave n p t.facts t.heard s t.reached w) in
      let says = event_says p s Left w in
      let names = reached_names_rounds n p t.facts t.heard s t.reached m e in
      record {
        steps = steps_of_event p s Left;
        run = r.0;
        own = event_at p s Left;
        life = r.1;
        sent = says.0 ∙ ap (λ (o : Option Message). w.wire ++ option_map_or (λ x. x ∷ []) o []) e;
        told = says.1 ∙ ap (λ (o : Option Message). w.trace ++ option_map_or (λ x. Sent x ∷ []) o []) e;
        submitted = ap (λ (o : Option Message). (after_steps w (option_map_or (λ x. world.Send p x ∷ []) o [])).submitted) e ∙ sym (append-nil w.submitted);
        proper = λ k c. elim (Contains-push_cases [] m k c) [
          | inl x ↦ none_proper n k x
          | inr x ↦ subst (IsProper n) x (subst (λ (q : ℕ). q < n) (sym names.0) t.in_world.exists, names.1)
        ];
      }

  acked_goes : (q : RequestNo) (reply : Reply) → next_acknowledged s ≡ Some q → told_reply s q ≡ Some reply → Goes n p (deed.Acked q reply) l w
  acked_goes q reply e f =
      let r = lives_on Answered tt tt tt in
      let says = event_says p s Answered w in
      let tell : Option RequestNo → List world.Told = λ o. option_map_or (λ x. option_map_or (λ y. Acknowledged p x y ∷ []) (told_reply s x) []) o [] in
      let step : Option RequestNo → List Step = λ o. option_map_or (λ x. option_map_or (λ y. world.Acknowledge p x y ∷ []) (told_reply s x) []) o [] in
      let told : tell (Some q) ≡ Acknowledged p q reply ∷ [] = ap (λ (o : Option Reply). option_map_or (λ y. Acknowledged p q y ∷ []) o []) f in
      let steps : step (Some q) ≡ world.Acknowledge p q reply ∷ [] = ap (λ (o : Option Reply). option_map_or (λ y. world.Acknowledge p q y ∷ []) o []) f in
      record {
        steps = steps_of_event p s Answered;
        run = r.0;
        own = event_at p s Answered;
        life = r.1;
        sent = says.0;
        told = says.1 ∙ ap (λ z. w.trace ++ z) (ap tell e ∙ told);
        submitted = ap (λ (xs : List Step). (after_steps w xs).submitted) (ap step e ∙ steps) ∙ sym (append-nil w.submitted);
        proper = none_proper n;
      }

  -- it marks its running group
  marked_goes : (group : List Fact) → s.running ≡ Some group → Goes n p deed.Marked l w
  marked_goes group runs =
      let steps : List Step = Settle p (length group) ∷ [] in
      let v : World = shade_of p l.marked w in
      let r = settles_in_world n p t.facts t.heard s v group runs t.in_world in
      let o = over steps (refl, tt) r.0 in
      let is_group : group_of s ≡ group = ap (λ (o : Option (List Fact)). option_map_or (λ g. g) o []) runs in
      let behind : IsInWorld false n p t.facts t.heard (marked_running s) (after_steps v (Settle p (length group) ∷ [])) =
      reached_marks n p t.facts t.heard s t.reached (after_steps v (Settle p (length group) ∷ [])) r.1 in
      let staged : w.staged p ≡ group ++ s.staged = t.in_world.staged ∙ ap (λ z. z ++ s.staged) is_group in
      let lists : l.marked ++ group ≡ l.marked ++ option_map_or group_of l.state [] = ap (λ z. l.marked ++ z) (sym is_group ∙ ap (λ (o : Option NodeState). option_map_or group_of o []) (sym up)) in
      let more : (after_steps v (Settle p (length group) ∷ [])).kept p ≡ l.marked ++ option_map_or group_of l.state [] =
      at_same v.kept p (v.kept p ++ take (length group) (w.staged p)) ∙ ap (λ z. z ++ take (length group) (w.staged p)) (at_same w.kept p l.marked)
      ∙ ap (λ z. l.marked ++ take (length group) z) staged ∙ ap (λ z. l.marked ++ z) (take_at group s.staged (length group) refl) ∙ lists in
      let there : IsThere n p (l.marked ++ option_map_or group_of l.state []) (after_event s Marked) (after_steps w (Settle p (length group) ∷ [])) =
      record {
        facts = t.facts;
        heard = t.heard;
        reached = reached_still n p t.facts t.heard s Marked t.reached tt refl;
        in_world = in_shade n p t.facts t.heard (marked_running s) (l.marked ++ option_map_or group_of l.state []) (after_steps v steps) (after_steps w steps) o.1 more behind;
        shift = subst (IsShifted n p ((after_steps w steps).kept p)) more o.1.shift;
      } in
      record {
        steps = Settle p (length group) ∷ [];
        run = o.0;
        own = (refl, tt);
        life = subst (λ (o : Option NodeState). IsLifeIn n p (record (lived Marked l) { marked = l.marked ++ option_map_or group_of l.state [] }) (after_steps w (Settle p (length group) ∷ [])) (option_map (λ x. after_event x Marked) o)) (sym up) there;
        sent = sym (append-nil w.wire);
        told = sym (append-nil w.trace);
        submitted = sym (append-nil w.submitted);
        proper = none_proper n;
      }

  -- it goes down
  down_goes : Goes n p deed.Down l w
  down_goes =
      let v : World = shade_of p l.marked w in
      let r = goes_down_in_world false n p t.facts t.heard s v t.in_world in
      let o = over (GoDown p ∷ []) (refl, tt) r.0 in
      let left : w.staged p ≡ option_map_or unmarked_of l.state l.unmarked = t.in_world.staged ∙ ap (λ (o : Option NodeState). option_map_or unmarked_of o l.unmarked) (sym up) in
      record {
        steps = GoDown p ∷ [];
        run = o.0;
        own = (refl, tt);
        life = (record { down = at_same w.is_up p false; keeps = refl; stages = left; heard = at_same w.heard p nothing_heard }, t.shift);
        sent = sym (append-nil w.wire);
        told = sym (append-nil w.trace);
        submitted = sym (append-nil w.submitted);
        proper = none_proper n;
      }

-- what a crash leaves in the world, and what it leaves of the node's own facts
pub left_shift : (n p : ℕ) (l : Life) (w : World) (count : ℕ) → IsDownIn p (w.kept p) l.unmarked w → IsShifted n p (w.kept p) l.marked → IsShifted n p (settled w p count) (l.marked ++ take count l.unmarked)
left_shift n p l w count D S = subst (λ z. IsShifted n p (w.kept p ++ take count z) (l.marked ++ take count l.unmarked)) (sym D.stages) (shifted_on n p (w.kept p) l.marked (take count l.unmarked) S)

-- it comes up over facts that its disk may have
up_goes : (n p : ℕ) (l : Life) (w : World) (promise : List Entry) (next : ℕ) → Invariant n w → p < n → IsDownIn p (w.kept p) l.unmarked w → IsShifted n p (w.kept p) l.marked → FindsItsFacts l promise next → Goes n p (deed.Up promise next) l w
up_goes n p l w promise next I less D S found = record {
  steps = Restart p found.0 ∷ [];
  run = o.0;
  own = (refl, tt);
  life = subst (λ (x : NodeState). IsThere n p (take next (l.marked ++ l.unmarked)) x (after_step w (Restart p found.0))) same there;
  sent = sym (append-nil w.wire);
  told = ap (λ z. w.trace ++ tell z ∷ []) prefix;
  submitted = sym (append-nil w.submitted);
  proper = none_proper n;
}
  where
    v : World
    v = shade_of p l.marked w

    facts : List Fact
    facts = l.marked ++ take found.0 l.unmarked

    E : IsDownIn p l.marked l.unmarked (shade_of p l.marked w)
    E = record { down = D.down; keeps = at_same w.kept p l.marked; stages = D.stages; heard = D.heard }

    -- what the world keeps of the restart, and what the node finds
    found_shift : IsShifted n p (settled w p found.0) (l.marked ++ take found.0 l.unmarked)
    found_shift = left_shift n p l w found.0 D S

    fit : all_fit n p [] (l.marked ++ take found.0 l.unmarked) ≡ true
    fit = shifted_fits n p (settled w p found.0) (l.marked ++ take found.0 l.unmarked) found_shift (history_fits n p (all_said w) (settled w p found.0) (settled_history n w p found.0 I))

    r : IsRunFrom n (shade_of p l.marked w) (Restart p found.0 ∷ []) × IsInWorld false n p (l.marked ++ take found.0 l.unmarked) nothing_heard (opened_over n p (l.marked ++ take found.0 l.unmarked)) (after_step (shade_of p l.marked w) (Restart p found.0))
        × ((after_step (shade_of p l.marked w) (Restart p found.0)).trace ≡ w.trace ++ Reported p (length (state.decided_prefix (opened_over n p (l.marked ++ take found.0 l.unmarked)))) (registry_of (state.decided_prefix (opened_over n p (l.marked ++ take found.0 l.unmarked)))) ∷ [])
    r = restarts_in_world n p l.marked l.unmarked found.0 (shade_of p l.marked w) less E found.1 fit

    o : IsRunFrom n w (Restart p found.0 ∷ []) × IsShadow n p (after_step (shade_of p l.marked w) (Restart p found.0)) (after_step w (Restart p found.0))
    o = steps_over n p (Restart p found.0 ∷ []) (shade_of p l.marked w) w (refl, tt) (shade_is_shadow n p l.marked w S) r.0

    cut : take next (l.marked ++ l.unmarked) ≡ l.marked ++ take found.0 l.unmarked
    cut =
        ap (λ z. take z (l.marked ++ l.unmarked)) found.2
        ∙ ap (λ z. take (length (l.marked ++ take found.0 l.unmarked)) z) (ap (λ z. l.marked ++ z) (sym (take-append-drop found.0 l.unmarked)) ∙ sym (append_assoc l.marked (take found.0 l.unmarked) (drop found.0 l.unmarked)))
        ∙ take_at (l.marked ++ take found.0 l.unmarked) (drop found.0 l.unmarked) (length (l.marked ++ take found.0 l.unmarked)) refl

    keeps : (after_step (shade_of p l.marked w) (Restart p found.0)).kept p ≡ take next (l.marked ++ l.unmarked)
    keeps = at_same (with_at w.kept p l.marked) p (settled (shade_of p l.marked w) p found.0) ∙ ap (λ z. z ++ take found.0 (w.staged p)) (at_same w.kept p l.marked) ∙ ap (λ z. l.marked ++ take found.0 z) D.stages ∙ sym cut

    there : IsThere n p (take next (l.marked ++ l.unmarked)) (opened_over n p (l.marked ++ take found.0 l.unmarked)) (after_step w (Restart p found.0))
    there = record {
      facts = l.marked ++ take found.0 l.unmarked;
      heard = nothing_heard;
      reached = reached.Opened (l.marked ++ take found.0 l.unmarked) fit;
      in_world = in_shade n p (l.marked ++ take found.0 l.unmarked) nothing_heard (opened_over n p (l.marked ++ take found.0 l.unmarked)) (take next (l.marked ++ l.unmarked)) (after_step (shade_of p l.marked w) (Restart p found.0)) (after_step w (Restart p found.0)) o.1 keeps r.1;
      shift = subst (IsShifted n p ((after_step w (Restart p found.0)).kept p)) keeps o.1.shift;
    }

    same : opened_over n p (l.marked ++ take found.0 l.unmarked) ≡ started n p promise next
    same = ap (λ z. started n p z (length (l.marked ++ take found.0 l.unmarked))) (sym found.3) ∙ ap (λ z. started n p promise z) (sym found.2)

    tell : List Command → world.Told
    tell z = Reported p (length z) (registry_of z)

    prefix : world.decided_prefix (settled w p found.0) ≡ decided_from 0 promise
    prefix = shifted_prefix n p (settled w p found.0) (l.marked ++ take found.0 l.unmarked) found_shift ∙ sym (same_prefix (l.marked ++ take found.0 l.unmarked)) ∙ ap (decided_from 0) (sym found.3)

-- a node that is up
pub up_is : (n p : ℕ) (l : Life) (w : World) (s : NodeState) → l.state ≡ Some s → IsLifeIn n p l w l.state → IsThere n p l.marked s w
up_is n p l w s e h = subst (λ (o : Option NodeState). IsLifeIn n p l w o) e h

pub down_is : (n p : ℕ) (l : Life) (w : World) → l.state ≡ None → IsLifeIn n p l w l.state → IsDownIn p (w.kept p) l.unmarked w × IsShifted n p (w.kept p) l.marked
down_is n p l w e h = subst (λ (o : Option NodeState). IsLifeIn n p l w o) e h

some_group : {A : Type 0} (o : Option A) → IsSome o → (x : A) × (o ≡ Some x)
some_group None h = absurd (let no : false ≡ true = h in cc)
some_group (Some x) h = (x, refl)

pub proper_input : (n p : ℕ) (v : Lives) (input : Input Message) → ((m : Message) → Contains v.wire m → IsProper n m) → WasSent v.wire p input → IsProperEvent n (Told input)
proper_input n p v (node.Hear m) all h = all m h.0
proper_input n p v input all h = tt

may_come : (p : ℕ) (v : Lives) (w : World) (s : NodeState) (input : Input Message) → ((m : Message) → Contains v.wire m → Contains w.wire m) → WasSent v.wire p input → MayCome w p s (Told input)
may_come p v w s (node.Hear m) same h = λ own. same m h.0
may_come p v w s input same h = tt

-- what a node does next takes it along
goes : (n p : ℕ) (v : Lives) (w : World) (what : What) → IsAlike n v w → IsNextOf n v.wire p (v.life p) what → OpensWellAt (v.life p) what → Goes n p what (v.life p) w
goes n p v w (deed.Told input) a next well =
    let t = up_is n p (v.life p) w next.0 next.1 (a.lives p) in
    told_goes n p (v.life p) w next.0 next.1 t input (proper_input n p v input a.proper (next.2).0) (may_come p v w next.0 input a.wire (next.2).0)
goes n p v w deed.Took a next well =
    let t = up_is n p (v.life p) w next.0 next.1 (a.lives p) in
    took_goes n p (v.life p) w next.0 next.1 t
goes n p v w deed.Marked a next well =
    let t = up_is n p (v.life p) w next.0 next.1 (a.lives p) in
    let group = some_group next.0.running next.2 in
    marked_goes n p (v.life p) w next.0 next.1 t group.0 group.1
goes n p v w (deed.Sent m) a next well =
    let t = up_is n p (v.life p) w next.0 next.1 (a.lives p) in
    sent_goes n p (v.life p) w next.0 next.1 t m next.2
goes n p v w (deed.Acked q reply) a next well =
    let t = up_is n p (v.life p) w next.0 next.1 (a.lives p) in
    acked_goes n p (v.life p) w next.0 next.1 t q reply (next.2).0 (next.2).1
goes n p v w deed.Down a next well =
    let t = up_is n p (v.life p) w next.0 next.1 (a.lives p) in
    down_goes n p (v.life p) w next.0 next.1 t
goes n p v w (deed.Up promise next_number) a next well =
    let d = down_is n p (v.life p) w next.1 (a.lives p) in
    up_goes n p (v.life p) w promise next_number a.sound next.0 d.0 d.1 well

-- ---- all nodes

-- a node that is left alone
pub life_alone : (n q : ℕ) (l : Life) (w u : World) → LeavesAlone q w u → (o : Option NodeState) → IsLifeIn n q l w o → IsLifeIn n q l u o
life_alone n q l w u a None h = (
  subst (λ k. IsDownIn q k l.unmarked u) (sym a.kept) (stays_down q (w.kept q) l.unmarked w u a h.0),
  subst (λ k. IsShifted n q k l.marked) (sym a.kept) h.1,
)
life_alone n q l w u a (Some s) t = record {
  facts = t.facts;
  heard = t.heard;
  reached = t.reached;
  in_world = stays_in_world false n q t.facts t.heard s (shade_of q l.marked w) (shade_of q l.marked u)
      (record { up = a.up; kept = at_same u.kept q l.marked ∙ sym (at_same w.kept q l.marked); staged = a.staged; heard = a.heard; submitted = a.submitted; wire = a.wire })
      t.in_world;
  shift = subst (λ k. IsShifted n q k l.marked) (sym a.kept) t.shift;
}

-- a deed took the world along
pub record Took (n : ℕ) (v : Lives) (d : Deed) (w : World) : Type 0 where
  pub steps : List Step
  pub run : IsRunFrom n w steps
  pub alike : IsAlike n (after_deed n d v) (after_steps w steps)
  pub sent : (after_steps w steps).wire ≡ w.wire ++ sent_by d
  pub told : (after_steps w steps).trace ≡ w.trace ++ told_by d
  pub submitted : (after_steps w steps).submitted ≡ w.submitted ++ submitted_by d

pub takes : (n : ℕ) (v : Lives) (d : Deed) (w : World) → IsAlike n v w → IsNextOf n v.wire d.node (v.life d.node) d.what → OpensWellAt (v.life d.node) d.what → Took n v d w
takes n v d w a next well = record {
  steps = g.steps;
  run = g.run;
  alike = record {
    lives = λ q. by q (q == d.node) refl;
    wire = λ m c. subst (λ ms. Contains ms m) (sym g.sent) (elim (Contains-append_cases v.wire (sent_by d) m c) [
      | inl x ↦ Contains-append_left w.wire (sent_by d) m (a.wire m x)
      | inr x ↦ Contains-append_right w.wire (sent_by d) m x
    ]);
    extra = λ m c. elim (Contains-append_cases w.wire (sent_by d) m (subst (λ ms. Contains ms m) g.sent c)) [
      | inl x ↦ elim (a.extra m x) [
        | inl y ↦ inl (Contains-append_left v.wire (sent_by d) m y)
        | inr y ↦ inr y
      ]
      | inr x ↦ inl (Contains-append_right v.wire (sent_by d) m x)
    ];
    proper = λ m c. elim (Contains-append_cases v.wire (sent_by d) m c) [ inl x ↦ a.proper m x | inr x ↦ g.proper m x ];
    sound = after_all n w g.steps g.run a.sound;
  };
  sent = g.sent;
  told = g.told;
  submitted = g.submitted;
}
  where
    g : Goes n d.node d.what (v.life d.node) w
    g = goes n d.node v w d.what a next well

    alone : (q : ℕ) → (q ≡ d.node → ⊥) → (o : Option NodeState) → IsLifeIn n q (v.life q) w o → IsLifeIn n q (v.life q) (after_steps w g.steps) o
    alone q other o h = life_alone n q (v.life q) w (after_steps w g.steps) (steps_alone q d.node w g.steps other g.own) o h

    by : (q : ℕ) (b : Bool) → (q == d.node) ≡ b
        → IsLifeIn n q (if b then after_what n d.node d.what (v.life d.node) else v.life q) (after_steps w g.steps) (if b then after_what n d.node d.what (v.life d.node) else v.life q).state
    by q true e = subst (λ x. IsLifeIn n x (after_what n d.node d.what (v.life d.node)) (after_steps w g.steps) (after_what n d.node d.what (v.life d.node)).state) (sym (eqb-true q d.node e)) g.life
    by q false e = alone q (eqb-false q d.node e) (v.life q).state (a.lives q)
