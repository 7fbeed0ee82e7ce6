-- A node opened over facts that fit makes only steps of the world, whatever happens at it.
use Rattle.std.proofs.Common.{◌≡◌, ℕ, ◌+◌, ◌≤◌, ◌<◌, inl, inr, Bool, true, false, ◌==◌, if◌then◌else◌, List, [], ◌∷◌, ◌++◌, length, length-append, take, drop, map, Option, None, Some, is_none, Contains, refl, ap, sym, ◌∙◌, subst, arith, append_assoc, append-nil, take-append-drop, eqb-true, eq-eqb}
use Rattle.std.specs.Option.{option_map_or}
use Rattle.std.proofs.lemmas.List.{take_at, take-append-le}
use Rattle.std.proofs.lemmas.List.Elements.{Contains-append_left, Contains-push, Contains-push_cases}
use Rattle.rr_types.specs.declared.command.Command.{Command}
use Rattle.rr_types.specs.declared.command.RequestNo.{RequestNo}
use Rattle.rr_types.specs.declared.command.Reply.{Reply}
use Rattle.rr_types.specs.declared.fact.Fact.{Fact}
use Rattle.rr_types.specs.declared.message.Message.{Message}
use Rattle.rr_types.specs.Promises.{promise_of, all_fit, take_on_all}
use Rattle.rr_types.specs.Registry.{reply_of}
use Rattle.rr_model.specs.Lawful.{Heard, IsLawful, IsBacked}
use Rattle.rr_model.specs.World as world
use Rattle.rr_model.specs.World.{World, Step, Stage, Settle, Send, Acknowledge, IsUp, MayHappen, after_step, with_at, nothing_heard, IsRunFrom}
use Rattle.rr_model.specs.Laws.{after_steps}
use Rattle.rr_model.specs.NodeState.{NodeState}
use Rattle.rr_types.specs.declared.input.Input.{Input}
use Rattle.rr_types.specs.declared.input.Input.TheVariants.{Submit, Hear}
use Rattle.rr_model.specs.NodeStep.{node_step, group_taken, group_put_back, marked_running, message_left, acknowledged, next_leaving, next_acknowledged, started}
use Rattle.rr_model.specs.NodeLaws.{IsOfSubmitted, hear_message, hear_command, AreLawful, StateEvent, Told, Grouped, PutBack, Marked, Left, Answered, after_event, heard_input, heard_after, IsEventOfNodes, AreEventsOfNodes, facts_of_input, facts_of_event, marked_facts, IsTruthful}
use Rattle.rr_model.specs.NodeWorld.{step_of_input, told_reply, IsAtNode, IsInputOfWorld, IsRunOfSteps, FollowsTheWorld, IsWorldlyNode}
use Rattle.rr_model.proofs.Laws.{after_steps-append}
use Rattle.rr_model.proofs.NodeKnows.{in_flight, Knows}
use Rattle.rr_model.proofs.NodeStages.{Fitting, Steps, drop_front, steps, step_goes, event_knows, moment, started_knows}

-- at p the function has the new value
pub at_same : {A : Type 0} → (f : ℕ → A) (p : ℕ) (x : A) → with_at f p x p ≡ x
at_same f p x = ap (λ b. if b then x else f p) (eq-eqb p p refl)

-- a run, and a run from where it ends
pub run_on : (n : ℕ) (w : World) (xs ys : List Step) → IsRunFrom n w xs → IsRunFrom n (after_steps w xs) ys → IsRunFrom n w (xs ++ ys)
run_on n w [] ys a b = b
run_on n w (x ∷ xs) ys a b = (a.0, run_on n (after_step w x) xs ys a.1 b)

-- the world has node p of n up, with these facts kept and staged, after what it heard
pub record IsAt (n p : ℕ) (kept staged : List Fact) (h : Heard) (w : World) : Type 0 where
  pub exists : p < n
  pub up : w.is_up p ≡ true
  pub kept_is : w.kept p ≡ kept
  pub staged_is : w.staged p ≡ staged
  pub heard : w.heard p ≡ h
  pub submitted : (c : Command) → Contains h.commands c → Contains w.submitted c

staged_one : (n p : ℕ) (kept staged : List Fact) (h : Heard) (w : World) (f : Fact) → IsAt n p kept staged h w → IsAt n p kept (staged ++ f ∷ []) h (after_step w (Stage p f))
staged_one n p kept staged h w f A = record {
  exists = A.exists;
  up = A.up;
  kept_is = A.kept_is;
  staged_is = at_same w.staged p (w.staged p ++ f ∷ []) ∙ ap (λ z. z ++ f ∷ []) A.staged_is;
  heard = A.heard;
  submitted = A.submitted;
}

-- lawful facts staged one after another
pub stage_run : (n p : ℕ) (kept staged : List Fact) (h : Heard) (w : World) (fs : List Fact) → IsAt n p kept staged h w → AreLawful n p (kept ++ staged) h fs → IsRunFrom n w (map (Stage p) fs) × IsAt n p kept (staged ++ fs) h (after_steps w (map (Stage p) fs))
stage_run n p kept staged h w [] A l = (tt, subst (λ z. IsAt n p kept z h w) (sym (append-nil staged)) A)
stage_run n p kept staged h w (f ∷ fs) A l =
    let B : IsAt n p kept (staged ++ f ∷ []) h (after_step w (Stage p f)) = staged_one n p kept staged h w f A in
    let here : IsLawful n p (w.kept p ++ w.staged p) (w.heard p) f = subst (λ z. IsLawful n p (w.kept p ++ w.staged p) z f) (sym A.heard) (subst (λ z. IsLawful n p (w.kept p ++ z) h f) (sym A.staged_is) (subst (λ z. IsLawful n p (z ++ staged) h f) (sym A.kept_is) l.0)) in
    let rest : IsRunFrom n (after_step w (Stage p f)) (map (Stage p) fs) × IsAt n p kept ((staged ++ f ∷ []) ++ fs) h (after_steps (after_step w (Stage p f)) (map (Stage p) fs)) =
    stage_run n p kept (staged ++ f ∷ []) h (after_step w (Stage p f)) fs B (subst (λ z. AreLawful n p z h fs) (append_assoc kept staged (f ∷ [])) l.1) in
    ((((A.exists, A.up), here), rest.0), subst (λ z. IsAt n p kept z h (after_steps (after_step w (Stage p f)) (map (Stage p) fs))) (append_assoc staged (f ∷ []) fs) rest.1)

-- an input, where it is a step
pub input_run : (n p : ℕ) (kept staged : List Fact) (h : Heard) (w : World) (input : Input Message) → IsInputOfWorld w p input → IsAt n p kept staged h w → IsRunFrom n w (step_of_input p input) × IsAt n p kept staged (heard_input p h input) (after_steps w (step_of_input p input))
input_run n p kept staged h w (Submit c) x A = (
  ((A.exists, A.up), tt),
  record {
    exists = A.exists;
    up = A.up;
    kept_is = A.kept_is;
    staged_is = A.staged_is;
    heard = at_same w.heard p (hear_command (w.heard p) c) ∙ ap (λ z. hear_command z c) A.heard;
    submitted = λ d y. elim (Contains-push_cases h.commands c d y) [
      | inl z ↦ Contains-append_left w.submitted (c ∷ []) d (A.submitted d z)
      | inr e ↦ subst (Contains (w.submitted ++ c ∷ [])) e (Contains-push w.submitted c)
    ];
  },
)
input_run n p kept staged h w (Hear m) x A = at (m.to == p) refl
  where
    at : (b : Bool) → (m.to == p) ≡ b → IsRunFrom n w (if b then world.Hear p m ∷ [] else []) × IsAt n p kept staged (if b then hear_message h m else h) (after_steps w (if b then world.Hear p m ∷ [] else []))
    at true e = (
      (((A.exists, A.up), x (eqb-true _ _ e), eqb-true _ _ e), tt),
      record {
        exists = A.exists;
        up = A.up;
        kept_is = A.kept_is;
        staged_is = A.staged_is;
        heard = at_same w.heard p (hear_message (w.heard p) m) ∙ ap (λ z. hear_message z m) A.heard;
        submitted = A.submitted;
      },
    )
    at false e = (tt, A)
input_run n p kept staged h w input x A = (tt, A)

module _ (n p : ℕ) (facts : List Fact) (h : Heard) (s : NodeState) (w : World) where
  -- the world as a node has it, by what the node knows
  from_node : IsTruthful p facts h s → IsAtNode n p facts h s w → IsAt n p (marked_facts facts s) (in_flight s.running ++ s.staged) h w
  from_node T A = record { exists = A.exists; up = A.up; kept_is = A.kept; staged_is = A.staged; heard = A.heard; submitted = A.submitted }

to_node : (n p : ℕ) (facts kept staged : List Fact) (h : Heard) (t : NodeState) (w : World) → kept ≡ marked_facts facts t → staged ≡ in_flight t.running ++ t.staged → IsAt n p kept staged h w → IsAtNode n p facts h t w
to_node n p facts kept staged h t w a b A = record { exists = A.exists; up = A.up; kept = A.kept_is ∙ a; staged = A.staged_is ∙ b; heard = A.heard; submitted = A.submitted }

-- nothing staged: the facts stay
no_more : (n p : ℕ) (facts : List Fact) (h : Heard) (s : NodeState) (w : World) → IsAtNode n p facts h s w → IsAtNode n p (facts ++ []) h s w
no_more n p facts h s w A = subst (λ z. IsAtNode n p z h s w) (sym (append-nil facts)) A

module _ (X : Type 0) (known : X) (n p : ℕ) (facts : List Fact) (h : Heard) (s : NodeState) (K : Knows X n p facts h s) where
  truth : IsTruthful p facts h s
  truth = moment X known n p facts h s K

  marked_are : marked_facts facts s ≡ K.kept
  marked_are = ap (take s.marked_end) K.whole ∙ take_at K.kept (in_flight s.running ++ s.staged) s.marked_end (sym K.count)

  marked_within : s.marked_end ≤ length facts
  marked_within =
      let a : length facts ≡ length (K.kept ++ (in_flight s.running ++ s.staged)) = ap length K.whole in
      let b : length (K.kept ++ (in_flight s.running ++ s.staged)) ≡ length K.kept + length (in_flight s.running ++ s.staged) = length-append K.kept (in_flight s.running ++ s.staged) in
      let c : s.marked_end ≡ length K.kept = K.count in
      omega arith

  told_run : (input : Input Message) → IsEventOfNodes n (Told input) → IsRunOfSteps n p facts h s (Told input)
  told_run input x w A y =
      let t : NodeState = node_step input s in
      let new : List Fact = facts_of_input s input in
      let g : Steps X n p facts (heard_input p h input) s (node_step input s) = steps X n p facts (heard_input p h input) s (node_step input s) (step_goes X n p facts h s input x K) in
      let first : IsRunFrom n w (step_of_input p input) × IsAt n p (marked_facts facts s) (in_flight s.running ++ s.staged) (heard_input p h input) (after_steps w (step_of_input p input)) =
      input_run n p (marked_facts facts s) (in_flight s.running ++ s.staged) h w input y (from_node n p facts h s w truth A) in
      let next : IsRunFrom n (after_steps w (step_of_input p input)) (map (Stage p) (facts_of_input s input)) × IsAt n p (marked_facts facts s) ((in_flight s.running ++ s.staged) ++ facts_of_input s input) (heard_input p h input) (after_steps (after_steps w (step_of_input p input)) (map (Stage p) (facts_of_input s input))) =
      stage_run n p (marked_facts facts s) (in_flight s.running ++ s.staged) (heard_input p h input) (after_steps w (step_of_input p input)) (facts_of_input s input) first.1 (subst (λ z. AreLawful n p z (heard_input p h input) (facts_of_input s input)) truth.together g.lawful) in (
        run_on n w (step_of_input p input) (map (Stage p) (facts_of_input s input)) first.0 next.0,
        subst (IsAtNode n p (facts ++ facts_of_input s input) (heard_input p h input) (node_step input s)) (sym (after_steps-append w (step_of_input p input) (map (Stage p) (facts_of_input s input))))
            (to_node n p (facts ++ facts_of_input s input) (marked_facts facts s) ((in_flight s.running ++ s.staged) ++ facts_of_input s input) (heard_input p h input) (node_step input s) (after_steps (after_steps w (step_of_input p input)) (map (Stage p) (facts_of_input s input)))
            (sym (take-append-le s.marked_end facts (facts_of_input s input) marked_within) ∙ ap (λ z. take z (facts ++ facts_of_input s input)) (sym g.marked_end))
            (append_assoc (in_flight s.running) s.staged (facts_of_input s input) ∙ ap (λ z. in_flight s.running ++ z) (sym g.behind) ∙ ap (λ z. in_flight z ++ (node_step input s).staged) (sym g.running))
            next.1),
      )

  grouped_run : IsRunOfSteps n p facts h s Grouped
  unfolding group_taken
  grouped_run w A y = (tt, no_more n p facts h _ w (at s.running refl))
    where
      at : (o : Option (List Fact)) → s.running ≡ o → IsAtNode n p facts h (if is_none o then record s { running = Some (take 64 s.staged); staged = drop 64 s.staged } else s) w
      at None e = record { exists = A.exists; up = A.up; kept = A.kept; staged = A.staged ∙ ap (λ z. in_flight z ++ s.staged) e ∙ sym (take-append-drop 64 s.staged); heard = A.heard; submitted = A.submitted }
      at (Some fs) e = A

  put_back_run : IsRunOfSteps n p facts h s PutBack
  unfolding group_put_back
  put_back_run w A y = (tt, no_more n p facts h _ w (record { exists = A.exists; up = A.up; kept = A.kept; staged = A.staged; heard = A.heard; submitted = A.submitted }))

  marked_run : IsRunOfSteps n p facts h s Marked
  unfolding marked_running
  marked_run w A y = (
    (((A.exists, A.up), let e : length (w.staged p) ≡ length (in_flight s.running ++ s.staged) = ap length A.staged in let l : length (in_flight s.running ++ s.staged) ≡ length (in_flight s.running) + length s.staged = length-append (in_flight s.running) s.staged in omega arith), tt),
    no_more n p facts h _ _ (at s.running refl),
  )
    where
      kept_now : (fs : List Fact) → w.staged p ≡ fs ++ s.staged → w.kept p ++ take (length fs) (w.staged p) ≡ marked_facts facts s ++ fs
      kept_now fs e = ap (λ z. z ++ take (length fs) (w.staged p)) A.kept ∙ ap (λ z. marked_facts facts s ++ z) (ap (take (length fs)) e ∙ take_at fs s.staged (length fs) refl)

      at : (o : Option (List Fact)) → s.running ≡ o → IsAtNode n p facts h (option_map_or (λ fs. record s { running = None; marked = take_on_all s.marked fs; marked_end = s.marked_end + length fs }) o s) (after_step w (Settle p (length (in_flight o))))
      at None e =
          let z : w.staged p ≡ s.staged = A.staged ∙ ap (λ z. in_flight z ++ s.staged) e in
          record { exists = A.exists; up = A.up; kept = at_same w.kept p _ ∙ kept_now [] z ∙ append-nil (marked_facts facts s); staged = at_same w.staged p _ ∙ z ∙ ap (λ o. in_flight o ++ s.staged) (sym e); heard = A.heard; submitted = A.submitted }
      at (Some fs) e =
          let z : w.staged p ≡ fs ++ s.staged = A.staged ∙ ap (λ z. in_flight z ++ s.staged) e in
          record { exists = A.exists; up = A.up; kept = at_same w.kept p _ ∙ kept_now fs z ∙ sym (longer fs e); staged = at_same w.staged p _ ∙ ap (drop (length fs)) z ∙ drop_front fs s.staged; heard = A.heard; submitted = A.submitted }
        where
          longer : (fs : List Fact) → s.running ≡ Some fs → take (s.marked_end + length fs) facts ≡ marked_facts facts s ++ fs
          longer fs e =
              let c : length (K.kept ++ fs) ≡ s.marked_end + length fs = length-append K.kept fs ∙ ap (λ z. z + length fs) (sym K.count) in
              ap (take (s.marked_end + length fs)) (K.whole ∙ ap (λ z. K.kept ++ (in_flight z ++ s.staged)) e ∙ sym (append_assoc K.kept fs s.staged))
              ∙ take_at (K.kept ++ fs) s.staged (s.marked_end + length fs) c
              ∙ ap (λ z. z ++ fs) (sym marked_are)

  left_run : IsRunOfSteps n p facts h s Left
  left_run w A y = at (next_leaving s) refl
    where
      at : (o : Option Message) → next_leaving s ≡ o → IsRunFrom n w (option_map_or (λ m. Send p m ∷ []) o []) × IsAtNode n p (facts ++ []) h (message_left s) (after_steps w (option_map_or (λ m. Send p m ∷ []) o []))
      at None e = (tt, no_more n p facts h _ w (record { exists = A.exists; up = A.up; kept = A.kept; staged = A.staged; heard = A.heard; submitted = A.submitted }))
      at (Some m) e =
          let l : (m.from ≡ p) × IsBacked m.body (marked_facts facts s) × IsOfSubmitted m.body h.commands = truth.leaving m e (y m e) in
          ((((A.exists, A.up), l.0, subst (IsBacked m.body) (sym A.kept) l.1, λ c x. A.submitted c (subst (λ z. IsOfSubmitted z h.commands) x l.2)), tt), no_more n p facts h _ _ (record { exists = A.exists; up = A.up; kept = A.kept; staged = A.staged; heard = A.heard; submitted = A.submitted }))

  answered_run : IsRunOfSteps n p facts h s Answered
  answered_run w A y = at (next_acknowledged s)
    where
      same : (q : RequestNo) (r : Reply) → told_reply s q ≡ Some r → reply_of (world.decided_prefix (w.kept p)) q ≡ Some r
      same q r e = ap (λ z. reply_of (world.decided_prefix z) q) A.kept ∙ ap (λ z. reply_of z q) (sym truth.prefix) ∙ e

      told : (q : RequestNo) (o : Option Reply) → told_reply s q ≡ o → IsRunFrom n w (option_map_or (λ reply. Acknowledge p q reply ∷ []) o []) × IsAtNode n p (facts ++ []) h (acknowledged s) (after_steps w (option_map_or (λ reply. Acknowledge p q reply ∷ []) o []))
      told q None e = (tt, no_more n p facts h _ w (record { exists = A.exists; up = A.up; kept = A.kept; staged = A.staged; heard = A.heard; submitted = A.submitted }))
      told q (Some r) e = ((((A.exists, A.up), same q r e), tt), no_more n p facts h _ _ (record { exists = A.exists; up = A.up; kept = A.kept; staged = A.staged; heard = A.heard; submitted = A.submitted }))

      at : (o : Option RequestNo) → IsRunFrom n w (option_map_or (λ q. option_map_or (λ reply. Acknowledge p q reply ∷ []) (told_reply s q) []) o []) × IsAtNode n p (facts ++ []) h (acknowledged s) (after_steps w (option_map_or (λ q. option_map_or (λ reply. Acknowledge p q reply ∷ []) (told_reply s q) []) o []))
      at None = (tt, no_more n p facts h _ w (record { exists = A.exists; up = A.up; kept = A.kept; staged = A.staged; heard = A.heard; submitted = A.submitted }))
      at (Some q) = told q (told_reply s q) refl

  -- each event is a run of the world's steps
  event_run : (e : StateEvent) → IsEventOfNodes n e → IsRunOfSteps n p facts h s e
  event_run (Told input) x = told_run input x
  event_run Grouped x = grouped_run
  event_run PutBack x = put_back_run
  event_run Marked x = marked_run
  event_run Left x = left_run
  event_run Answered x = answered_run

follows : (X : Type 0) (known : X) (n p : ℕ) (facts : List Fact) (h : Heard) (s : NodeState) (es : List StateEvent) → AreEventsOfNodes n es → Knows X n p facts h s → FollowsTheWorld n p facts h s es
follows X known n p facts h s [] x K = tt
follows X known n p facts h s (e ∷ es) x K = (event_run X known n p facts h s K e x.0, follows X known n p (facts ++ facts_of_event s e) (heard_after p h e) (after_event s e) es x.1 (event_knows X known n p facts h s e x.0 K))

-- a node, opened over facts that fit, does nothing but steps of the world
pub worldly_node : (n p : ℕ) (facts : List Fact) → all_fit n p [] facts ≡ true → IsWorldlyNode n p facts
worldly_node n p facts fit es x = follows (Fitting n p facts) fit n p facts nothing_heard (started n p (promise_of facts) (length facts)) es x (started_knows n p facts)
