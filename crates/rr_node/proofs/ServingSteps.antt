-- The events of a node that is up, in the world: inputs, sends, acknowledgements, the taking up and the marking of a group.
use Rattle.std.proofs.Common.{◌≡◌, ◌⊎◌, inl, inr, ℕ, Bool, true, false, ◌==◌, eq-eqb, List, [], ◌∷◌, ◌++◌, length, map, append-nil, Contains, Option, None, Some, Ok, Err, refl, sym, ap, subst, ◌∙◌, if◌then◌else◌}
use Rattle.std.specs.Option.{option_map_or}
use Rattle.std.proofs.lemmas.List.Elements.{Contains-push_cases}
use Rattle.rr_types.specs.declared.command.RequestNo.{RequestNo}
use Rattle.rr_types.specs.declared.command.Reply.{Reply}
use Rattle.rr_types.specs.declared.fact.Fact.{Fact}
use Rattle.rr_types.specs.declared.message.Message.{Message}
use Rattle.rr_types.specs.declared.refusal.Refusal.{Refusal}
use Rattle.rr_types.specs.Registry.{reply_of}
use Rattle.rr_model.specs.World as world
use Rattle.rr_model.specs.World.{World, Step, Stage, Send, after_step, IsRunFrom}
use Rattle.rr_model.specs.Laws.{after_steps}
use Rattle.rr_model.specs.NodeState.{NodeState, decided_prefix}
use Rattle.rr_types.specs.declared.input.Input.{Input}
use Rattle.rr_types.specs.declared.input.Input.TheVariants.{Submit, Hear}
use Rattle.rr_model.specs.NodeStep.{node_step, refusal_of, running_group, next_leaving, message_left, next_acknowledged, acknowledged}
use Rattle.rr_model.specs.NodeLaws.{StateEvent, Told, Left, Answered, after_event, heard_after, facts_of_input, facts_of_event}
use Rattle.rr_model.specs.NodeReached.{NamesRounds, IsProperEvent, Happened}
use Rattle.rr_model.specs.NodeWorld as worldly
use Rattle.rr_model.specs.NodeWorld.{step_of_input, steps_of_event}
use Rattle.rr_model.specs.NodeInWorld.{LeavesTheGroup}
use Rattle.rr_model.proofs.Laws.{after_steps-append}
use Rattle.rr_model.proofs.Frames.{event_at, event_says}
use Rattle.rr_model.proofs.NodeInWorld.{reached_in_world}
use Rattle.rr_model.proofs.NodeRounds.{reached_names_rounds, reached_may_leave}
use Rattle.rr_model.proofs.NodeSteady.{input_stays}
use Rattle.rr_disk.specs.Areas.{Areas}
use Rattle.rr_disk.specs.Crash.{Images}
use Rattle.rr_journal.specs.Journals.{IsOver}
use Rattle.rr_types.specs.declared.event.NodeEvent as node
use Rattle.rr_types.specs.declared.event.NodeEvent.TheVariants as at
use Rattle.rr_node.specs.declared.event.Outcome.TheVariants as outcome
use Rattle.rr_node.specs.Seats.{Flush, Resting, Writing, Flushed, Switching, Journaled, Serving, Seat, goes_on, refuse, told, send_off, reply_off}
use Rattle.rr_node.specs.Worlds.{is_settled, journal_at, FlushesSo, IsServing, InStep}
use Rattle.rr_node.specs.Runs.{MayCome, MayBe, GoesOn}
use Rattle.rr_node.proofs.Going.{no_member, goes, stays}
use Rattle.rr_node.proofs.Falling.{seated}

-- any event may be no step
pub nothing : (p : ℕ) (event : node.NodeEvent Message) → MayBe p event []
nothing p (at.Told (Submit c)) = inl refl
nothing p (at.Told (Hear m)) = inl refl
nothing p (at.Told input) = ([], refl)
nothing p at.Take = refl
nothing p at.Device = inl (inl refl)
nothing p at.Mark = refl
nothing p at.Send = inl refl
nothing p at.Acknowledge = inl refl
nothing p at.Snap = refl
nothing p at.Restart = refl

-- a refused event is none
pub refuses : (n p : ℕ) (w : World) (event : node.NodeEvent Message) (seat : Seat) (e : Refusal) → InStep n p seat w → GoesOn n p (MayBe p event) w (refuse e seat).0 (refuse e seat).1
refuses n p w event seat e h = stays n p (MayBe p event) w (Err e) seat (nothing p event) h (record { unsent = refl; untold = refl })

-- nor is an event of which nothing comes
pub does_nothing : (n p : ℕ) (w : World) (event : node.NodeEvent Message) (seat : Seat) → InStep n p seat w → GoesOn n p (MayBe p event) w (Ok outcome.Quiet) seat
does_nothing n p w event seat h = stays n p (MayBe p event) w (Ok outcome.Quiet) seat (nothing p event) h (record { unsent = refl; untold = refl })

-- the same group runs, behind as many marked facts
pub record RunsOn (s t : NodeState) : Type 0 where
  pub running : t.running ≡ s.running
  pub marked_end : t.marked_end ≡ s.marked_end

group_runs : (s t : NodeState) → RunsOn s t → running_group t ≡ running_group s
group_runs s t on = λ i. running_group (record s { running = on.running i; marked_end = on.marked_end i })

pub flushes_on : (n p : ℕ) (s t : NodeState) (journal : Journaled) (kept : List Fact) (start : Images) (both : Areas) (flush : Flush) → RunsOn s t → FlushesSo n p s journal kept start both flush → FlushesSo n p t journal kept start both flush
flushes_on n p s t journal kept start both Resting on h = (on.running ∙ h.0, h.1)
flushes_on n p s t journal kept start both (Switching calls) on h = record { stage = h.stage; rests = on.running ∙ h.rests; spelt = h.spelt; small = h.small; calls_left = h.calls_left; stands = h.stands }
flushes_on n p s t journal kept start both (Writing calls) on h = record { group = h.group; moment = h.moment; runs = group_runs s t on ∙ h.runs; lawful = h.lawful; small = h.small; calls_left = h.calls_left; stands = h.stands }
flushes_on n p s t journal kept start both Flushed on h = (h.0, on.running ∙ h.1, h.2)

-- an event of the core that leaves its group and what is kept
module _ (n p : ℕ) (w : World) (both : Areas) (s : NodeState) (journal : Journaled) (flush : Flush) (serves : IsServing n p w both s journal flush) (e : StateEvent) (proper : IsProperEvent n e) (leaves : LeavesTheGroup e) (comes : worldly.MayCome w p s e) where
  pub event_runs : IsRunFrom n w (steps_of_event p s e)
  event_runs = (reached_in_world n p serves.facts serves.heard s serves.reached (is_settled flush) e proper leaves w serves.in_world comes).0

  pub serves_on : (after_steps w (steps_of_event p s e)).kept p ≡ w.kept p → RunsOn s (after_event s e) → IsServing n p (after_steps w (steps_of_event p s e)) both (after_event s e) journal flush
  serves_on kept on = record {
    facts = serves.facts ++ facts_of_event s e;
    heard = heard_after p serves.heard e;
    reached = Happened serves.facts serves.heard s e serves.reached proper;
    in_world = (reached_in_world n p serves.facts serves.heard s serves.reached (is_settled flush) e proper leaves w serves.in_world comes).1;
    start = serves.start;
    over = subst (λ (fs : List Fact). IsOver (journal_at n p journal (length fs)) serves.start fs) (sym kept) serves.over;
    flushes = flushes_on n p s (after_event s e) journal ((after_steps w (steps_of_event p s e)).kept p) serves.start both flush on
        (subst (λ (fs : List Fact). FlushesSo n p s journal fs serves.start both flush) (sym kept) serves.flushes);
  }

-- ---- inputs

-- inputs and staged facts leave what is kept
stages_keep : (p : ℕ) (w : World) (facts : List Fact) → (after_steps w (map (Stage p) facts)).kept ≡ w.kept
stages_keep p w [] = refl
stages_keep p w (f ∷ facts) = stages_keep p (after_step w (Stage p f)) facts

input_keeps : (p : ℕ) (w : World) (input : Input Message) → (after_steps w (step_of_input p input)).kept ≡ w.kept
input_keeps p w (Submit c) = refl
input_keeps p w (Hear m) = by (m.to == p)
  where
    by : (b : Bool) → (after_steps w (if b then world.Hear p m ∷ [] else [])).kept ≡ w.kept
    by true = refl
    by false = refl
input_keeps p w input = refl

told_keeps : (p : ℕ) (w : World) (s : NodeState) (input : Input Message) → (after_steps w (steps_of_event p s (Told input))).kept p ≡ w.kept p
told_keeps p w s input =
    ap (λ (v : World). v.kept p) (after_steps-append w (step_of_input p input) (map (Stage p) (facts_of_input s input)))
    ∙ ap (λ (k : ℕ → List Fact). k p) (stages_keep p (after_steps w (step_of_input p input)) (facts_of_input s input) ∙ input_keeps p w input)

module _ (n p k : ℕ) (w : World) (both : Areas) (s : NodeState) (journal : Journaled) (flush : Flush) (h : InStep n p (seated n p k both (Serving s journal flush)) w) where
  -- an input that may come is such steps
  told_may_be : (input : Input Message) → MayCome n p w (at.Told input) → MayBe p (at.Told input) (steps_of_event p s (Told input)) × IsProperEvent n (Told input) × worldly.MayCome w p s (Told input)
  told_may_be (Submit c) comes = (inr (facts_of_input s (Submit c), refl), tt, tt)
  told_may_be (Hear m) comes = (
    inr (facts_of_input s (Hear m), ap (λ (b : Bool). (if b then world.Hear p m ∷ [] else []) ++ map (Stage p) (facts_of_input s (Hear m))) (eq-eqb m.to p comes.1)),
    (comes.2, comes.3),
    λ to. comes.0,
  )
  told_may_be input comes = ((facts_of_input s input, refl), tt, tt)

  -- one that isn't refused is a run of them
  pub tells : (input : Input Message) → MayCome n p w (at.Told input) → (let x = told input s journal flush (seated n p k both (Serving s journal flush)) in GoesOn n p (MayBe p (at.Told input)) w x.0 x.1)
  tells input comes = by (refusal_of input s)
    where
      by : (o : Option Refusal) → (let x = option_map_or (λ e. refuse e (seated n p k both (Serving s journal flush))) o (goes_on outcome.Quiet (Serving (node_step input s) journal flush) (seated n p k both (Serving s journal flush))) in GoesOn n p (MayBe p (at.Told input)) w x.0 x.1)
      by (Some e) = refuses n p w (at.Told input) (seated n p k both (Serving s journal flush)) e h
      by None =
          let so = told_may_be input comes in
          let says = event_says p s (Told input) w in
          let same = input_stays input s in
          goes n p (MayBe p (at.Told input)) w (Ok outcome.Quiet) (seated n p k both (Serving (node_step input s) journal flush)) (steps_of_event p s (Told input)) tt so.0
          (event_runs n p w both s journal flush h.doing (Told input) so.1 tt so.2) (event_at p s (Told input))
          (record {
            exists = h.exists;
            nodes = refl;
            node = refl;
            in_order = h.in_order;
            doing = serves_on n p w both s journal flush h.doing (Told input) so.1 tt so.2 (told_keeps p w s input) (record { running = same.running; marked_end = same.marked_end });
          })
          says.0 says.1 (λ m held. absurd (no_member m held))

  -- ---- what leaves the node

  -- a message
  pub sends : (let x = send_off s journal flush (seated n p k both (Serving s journal flush)) in GoesOn n p (MayBe p at.Send) w x.0 x.1)
  sends = by (next_leaving s) refl
    where
      by : (o : Option Message) → next_leaving s ≡ o
          → (let x = option_map_or (λ m. goes_on (outcome.Left m) (Serving (message_left s) journal flush) (seated n p k both (Serving s journal flush))) o (Ok outcome.Quiet, seated n p k both (Serving s journal flush)) in GoesOn n p (MayBe p at.Send) w x.0 x.1)
      by None is = does_nothing n p w at.Send (seated n p k both (Serving s journal flush)) h
      by (Some m) is =
          let serves : IsServing n p w both s journal flush = h.doing in
          let comes = reached_may_leave n p serves.facts serves.heard s serves.reached w in
          let names = reached_names_rounds n p serves.facts serves.heard s serves.reached m is in
          let steps : steps_of_event p s Left ≡ Send p m ∷ [] = ap (λ (o : Option Message). option_map_or (λ x. Send p x ∷ []) o []) is in
          let kept : (after_steps w (steps_of_event p s Left)).kept p ≡ w.kept p = ap (λ (ss : List Step). (after_steps w ss).kept p) steps in
          goes n p (MayBe p at.Send) w (Ok (outcome.Left m)) (seated n p k both (Serving (message_left s) journal flush)) (Send p m ∷ []) tt (inr (m, refl))
          (subst (λ (ss : List Step). IsRunFrom n w ss) steps (event_runs n p w both s journal flush h.doing Left tt tt comes)) (refl, tt)
          (record {
            exists = h.exists;
            nodes = refl;
            node = refl;
            in_order = h.in_order;
            doing = subst (λ (ss : List Step). IsServing n p (after_steps w ss) both (message_left s) journal flush) steps
                (serves_on n p w both s journal flush h.doing Left tt tt comes kept (record { running = refl; marked_end = refl }));
          })
          refl refl
          (λ o held. let same : m ≡ o = only m o held in subst (λ (x : Message). (x.from ≡ p) × NamesRounds x.body) same names)
        where
          only : (m o : Message) → Contains (m ∷ []) o → m ≡ o
          only m o held = by_case (Contains-push_cases [] m o held)
            where
              by_case : Contains [] o ⊎ (m ≡ o) → m ≡ o
              by_case (inl none) = absurd (no_member o none)
              by_case (inr same) = same

  -- a reply
  pub replies : (let x = reply_off s journal flush (seated n p k both (Serving s journal flush)) in GoesOn n p (MayBe p at.Acknowledge) w x.0 x.1)
  replies = by (next_acknowledged s) refl
    where
      replied : (q : RequestNo) (o : Option Reply) → steps_of_event p s Answered ≡ option_map_or (λ (reply : Reply). world.Acknowledge p q reply ∷ []) o []
          → (let x = option_map_or (λ reply. goes_on (outcome.Replied q reply) (Serving (acknowledged s) journal flush) (seated n p k both (Serving s journal flush))) o (Ok outcome.Quiet, seated n p k both (Serving s journal flush)) in GoesOn n p (MayBe p at.Acknowledge) w x.0 x.1)
      replied q None steps = does_nothing n p w at.Acknowledge (seated n p k both (Serving s journal flush)) h
      replied q (Some reply) steps =
          let kept : (after_steps w (steps_of_event p s Answered)).kept p ≡ w.kept p = ap (λ (ss : List Step). (after_steps w ss).kept p) steps in
          goes n p (MayBe p at.Acknowledge) w (Ok (outcome.Replied q reply)) (seated n p k both (Serving (acknowledged s) journal flush)) (world.Acknowledge p q reply ∷ []) tt (inr (q, reply, refl))
          (subst (λ (ss : List Step). IsRunFrom n w ss) steps (event_runs n p w both s journal flush h.doing Answered tt tt tt)) (refl, tt)
          (record {
            exists = h.exists;
            nodes = refl;
            node = refl;
            in_order = h.in_order;
            doing = subst (λ (ss : List Step). IsServing n p (after_steps w ss) both (acknowledged s) journal flush) steps
                (serves_on n p w both s journal flush h.doing Answered tt tt tt kept (record { running = refl; marked_end = refl }));
          })
          (sym (append-nil w.wire)) refl (λ m held. absurd (no_member m held))

      by : (o : Option RequestNo) → next_acknowledged s ≡ o
          → (let x = option_map_or (λ q. option_map_or (λ reply. goes_on (outcome.Replied q reply) (Serving (acknowledged s) journal flush) (seated n p k both (Serving s journal flush))) (reply_of (decided_prefix s) q) (Ok outcome.Quiet, seated n p k both (Serving s journal flush))) o (Ok outcome.Quiet, seated n p k both (Serving s journal flush)) in GoesOn n p (MayBe p at.Acknowledge) w x.0 x.1)
      by None is = does_nothing n p w at.Acknowledge (seated n p k both (Serving s journal flush)) h
      by (Some q) is = replied q (reply_of (decided_prefix s) q) (ap (λ (o : Option RequestNo). option_map_or (λ r. option_map_or (λ reply. world.Acknowledge p r reply ∷ []) (reply_of (decided_prefix s) r) []) o []) is)
