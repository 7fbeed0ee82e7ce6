-- A node that was reached, in the world: its events are steps, its running group may be settled before it is marked.
use Rattle.std.proofs.Common.{◌≡◌, ℕ, ◌+◌, ◌≤◌, Bool, true, false, if◌then◌else◌, List, [], ◌∷◌, ◌++◌, length, length-append, take, drop, map, Option, None, Some, is_none, is_some, refl, ap, sym, ◌∙◌, subst, arith, append_assoc, append-nil, take-append-drop}
use Rattle.std.specs.Option.{option_map_or}
use Rattle.std.proofs.lemmas.Bool.{false≢true}
use Rattle.std.proofs.lemmas.List.{take_at, take-append-le}
use Rattle.rr_types.specs.declared.command.RequestNo.{RequestNo}
use Rattle.rr_types.specs.declared.command.Reply.{Reply}
use Rattle.rr_types.specs.declared.fact.Fact.{Fact}
use Rattle.rr_types.specs.declared.message.Message.{Message}
use Rattle.rr_types.specs.Promises.{promise_of, take_on_all, all_fit}
use Rattle.rr_types.specs.Registry.{reply_of}
use Rattle.rr_model.specs.Lawful.{Heard, IsBacked}
use Rattle.rr_model.specs.World as world
use Rattle.rr_model.specs.World.{World, Step, Stage, Settle, Send, Acknowledge, GoDown, after_step, IsRunFrom}
use Rattle.rr_model.specs.Laws.{after_steps}
use Rattle.rr_model.specs.NodeState.{NodeState}
use Rattle.rr_types.specs.declared.input.Input.{Input}
use Rattle.rr_model.specs.NodeStep.{node_step, group_taken, group_put_back, marked_running, message_left, acknowledged, next_leaving, next_acknowledged}
use Rattle.rr_model.specs.NodeLaws.{AreLawful, IsOfSubmitted, StateEvent, Told, Grouped, PutBack, Marked, Left, Answered, heard_input, facts_of_input, marked_facts, IsTruthful}
use Rattle.rr_model.specs.NodeWorld.{step_of_input, told_reply}
use Rattle.rr_model.specs.NodeReached.{IsProperEvent, IsReached}
use Rattle.rr_model.specs.NodeInWorld.{group_of, IsInWorld, LeavesTheGroup, IsRunInWorld, SettlesItsGroup, MarksWhatIsSettled, PutsBackItsGroup, GoesDown}
use Rattle.rr_model.proofs.Growth.{backed_grows}
use Rattle.rr_model.proofs.Laws.{after_steps-append}
use Rattle.rr_model.proofs.Prefixes.{Begins}
use Rattle.rr_model.proofs.Replies.{same_reply}
use Rattle.rr_model.proofs.Fits.{fit_first, fitting_prefix}
use Rattle.rr_model.proofs.NodeKnows.{Knows}
use Rattle.rr_model.proofs.NodeStages.{Steps, drop_front, steps, step_goes}
use Rattle.rr_model.proofs.NodeFollows.{at_same, run_on, IsAt, stage_run, input_run}
use Rattle.rr_model.proofs.NodeReached.{event_of_nodes, reached_knows, reached_truthful, reached_itself, reached_fits}

-- marked facts, the group on one side or the other, and the staged ones
regroup : (b : Bool) (marked group staged : List Fact) → marked ++ (group ++ staged) ≡ (marked ++ (if b then group else [])) ++ ((if b then [] else group) ++ staged)
regroup true marked group staged = sym (append_assoc marked group staged)
regroup false marked group staged = ap (λ z. z ++ (group ++ staged)) (sym (append-nil marked))

-- nothing staged: the facts stay
no_more : (b : Bool) (n p : ℕ) (facts : List Fact) (h : Heard) (s : NodeState) (w : World) → IsInWorld b n p facts h s w → IsInWorld b n p (facts ++ []) h s w
no_more b n p facts h s w A = subst (λ z. IsInWorld b n p z h s w) (sym (append-nil facts)) A

to_world : (b : Bool) (n p : ℕ) (facts kept staged : List Fact) (h : Heard) (t : NodeState) (w : World) → (b ≡ true → is_some t.running ≡ true) → kept ≡ marked_facts facts t ++ (if b then group_of t else []) → staged ≡ (if b then [] else group_of t) ++ t.staged → IsAt n p kept staged h w → IsInWorld b n p facts h t w
to_world b n p facts kept staged h t w r k g A = record { exists = A.exists; up = A.up; runs = r; kept = A.kept_is ∙ k; staged = A.staged_is ∙ g; heard = A.heard; submitted = A.submitted }

from_world : (b : Bool) (n p : ℕ) (facts : List Fact) (h : Heard) (s : NodeState) (w : World) → IsInWorld b n p facts h s w → IsAt n p (marked_facts facts s ++ (if b then group_of s else [])) ((if b then [] else group_of s) ++ s.staged) h w
from_world b n p facts h s w A = record { exists = A.exists; up = A.up; kept_is = A.kept; staged_is = A.staged; heard = A.heard; submitted = A.submitted }

-- the oldest staged facts are taken up where nothing runs
grouped_in_world : (b : Bool) (o : Option (List Fact)) (n p : ℕ) (facts : List Fact) (h : Heard) (s : NodeState) (w : World) → s.running ≡ o → IsInWorld b n p facts h s w → IsInWorld b n p facts h (if is_none o then group_taken s else s) w
unfolding group_taken
grouped_in_world true None n p facts h s w e A = absurd (false≢true (sym (ap is_some e) ∙ A.runs refl))
grouped_in_world false None n p facts h s w e A = record { exists = A.exists; up = A.up; runs = λ x. absurd (false≢true x); kept = A.kept; staged = A.staged ∙ ap (λ z. option_map_or (λ group. group) z [] ++ s.staged) e ∙ sym (take-append-drop 64 s.staged); heard = A.heard; submitted = A.submitted }
grouped_in_world b (Some fs) n p facts h s w e A = A

module _ (n p : ℕ) (facts : List Fact) (h : Heard) (s : NodeState) (R : IsReached n p facts h s) where
  knows : Knows (Unit {0}) n p facts h s
  knows = reached_knows n p facts h s R

  truth : IsTruthful p facts h s
  truth = reached_truthful n p facts h s R

  marked_within : s.marked_end ≤ length facts
  marked_within =
      let K : Knows (Unit {0}) n p facts h s = knows in
      let a : length facts ≡ length (K.kept ++ (group_of s ++ s.staged)) = ap length K.whole in
      let b : length (K.kept ++ (group_of s ++ s.staged)) ≡ length K.kept + length (group_of s ++ s.staged) = length-append K.kept (group_of s ++ s.staged) in
      let c : s.marked_end ≡ length K.kept = K.count in
      omega arith

  -- an input and the facts that it stages
  told_in_world : (b : Bool) (input : Input Message) → IsProperEvent n (Told input) → IsRunInWorld b n p facts h s (Told input)
  told_in_world b input x w A y =
      let kept : List Fact = marked_facts facts s ++ (if b then group_of s else []) in
      let held : List Fact = (if b then [] else group_of s) ++ s.staged in
      let g : Steps (Unit {0}) n p facts (heard_input p h input) s (node_step input s) = steps (Unit {0}) n p facts (heard_input p h input) s (node_step input s) (step_goes (Unit {0}) n p facts h s input (event_of_nodes n (Told input) x) knows) in
      let first : IsRunFrom n w (step_of_input p input) × IsAt n p kept held (heard_input p h input) (after_steps w (step_of_input p input)) =
      input_run n p kept held h w input y (from_world b n p facts h s w A) in
      let next : IsRunFrom n (after_steps w (step_of_input p input)) (map (Stage p) (facts_of_input s input)) × IsAt n p kept (held ++ facts_of_input s input) (heard_input p h input) (after_steps (after_steps w (step_of_input p input)) (map (Stage p) (facts_of_input s input))) =
      stage_run n p kept held (heard_input p h input) (after_steps w (step_of_input p input)) (facts_of_input s input) first.1 (subst (λ z. AreLawful n p z (heard_input p h input) (facts_of_input s input)) (truth.together ∙ regroup b (marked_facts facts s) (group_of s) s.staged) g.lawful) in (
        run_on n w (step_of_input p input) (map (Stage p) (facts_of_input s input)) first.0 next.0,
        subst (IsInWorld b n p (facts ++ facts_of_input s input) (heard_input p h input) (node_step input s)) (sym (after_steps-append w (step_of_input p input) (map (Stage p) (facts_of_input s input))))
            (to_world b n p (facts ++ facts_of_input s input) kept (held ++ facts_of_input s input) (heard_input p h input) (node_step input s) (after_steps (after_steps w (step_of_input p input)) (map (Stage p) (facts_of_input s input)))
            (λ e. ap is_some g.running ∙ A.runs e)
            (ap (λ z. z ++ (if b then group_of s else [])) (sym (take-append-le s.marked_end facts (facts_of_input s input) marked_within) ∙ ap (λ z. take z (facts ++ facts_of_input s input)) (sym g.marked_end))
            ∙ ap (λ z. marked_facts (facts ++ facts_of_input s input) (node_step input s) ++ (if b then option_map_or (λ group. group) z [] else [])) (sym g.running))
            (append_assoc (if b then [] else group_of s) s.staged (facts_of_input s input) ∙ ap (λ z. (if b then [] else group_of s) ++ z) (sym g.behind)
            ∙ ap (λ z. (if b then [] else option_map_or (λ group. group) z []) ++ (node_step input s).staged) (sym g.running))
            next.1),
      )

  -- a message that leaves
  left_in_world : (b : Bool) → IsRunInWorld b n p facts h s Left
  left_in_world b w A y = at (next_leaving s) refl
    where
      at : (o : Option Message) → next_leaving s ≡ o → IsRunFrom n w (option_map_or (λ m. Send p m ∷ []) o []) × IsInWorld b n p (facts ++ []) h (message_left s) (after_steps w (option_map_or (λ m. Send p m ∷ []) o []))
      at None e = (tt, no_more b n p facts h _ w (record { exists = A.exists; up = A.up; runs = A.runs; kept = A.kept; staged = A.staged; heard = A.heard; submitted = A.submitted }))
      at (Some m) e =
          let l : (m.from ≡ p) × IsBacked m.body (marked_facts facts s) × IsOfSubmitted m.body h.commands = truth.leaving m e (y m e) in
          let backed : IsBacked m.body (w.kept p) = subst (IsBacked m.body) (sym A.kept) (backed_grows m.body (marked_facts facts s) (if b then group_of s else []) l.1) in
          ((((A.exists, A.up), l.0, backed, λ c x. A.submitted c (subst (λ z. IsOfSubmitted z h.commands) x l.2)), tt), no_more b n p facts h _ _ (record { exists = A.exists; up = A.up; runs = A.runs; kept = A.kept; staged = A.staged; heard = A.heard; submitted = A.submitted }))

  -- the marked facts fit, and the running group behind them
  pub reached_front_fits : (b : Bool) → all_fit n p [] (marked_facts facts s ++ (if b then group_of s else [])) ≡ true
  reached_front_fits b = fit_first n p [] (marked_facts facts s ++ (if b then group_of s else [])) ((if b then [] else group_of s) ++ s.staged)
      (subst (λ z. all_fit n p [] z ≡ true) (truth.together ∙ regroup b (marked_facts facts s) (group_of s) s.staged) (reached_fits n p facts h s R))

  -- whatever a crash leaves of the node's facts fits
  pub reached_left_fits : (b : Bool) (w : World) (count : ℕ) → IsInWorld b n p facts h s w → all_fit n p [] (w.kept p ++ take count (w.staged p)) ≡ true
  reached_left_fits b w count A =
      let whole : facts ≡ w.kept p ++ w.staged p = truth.together ∙ regroup b (marked_facts facts s) (group_of s) s.staged ∙ sym (ap (λ z. z ++ ((if b then [] else group_of s) ++ s.staged)) A.kept) ∙ sym (ap (λ z. w.kept p ++ z) A.staged) in
      let split : facts ≡ (w.kept p ++ take count (w.staged p)) ++ drop count (w.staged p) = whole ∙ ap (λ z. w.kept p ++ z) (sym (take-append-drop count (w.staged p))) ∙ sym (append_assoc (w.kept p) (take count (w.staged p)) (drop count (w.staged p))) in
      fit_first n p [] (w.kept p ++ take count (w.staged p)) (drop count (w.staged p)) (subst (λ z. all_fit n p [] z ≡ true) split (reached_fits n p facts h s R))

  -- while its group isn't settled, what is kept of the node is what it has marked
  pub kept_are_marked : (w : World) → IsInWorld false n p facts h s w → w.kept p ≡ marked_facts facts s
  kept_are_marked w A = A.kept ∙ append-nil (marked_facts facts s)

  -- it counts these facts, and knows their promise
  pub kept_are_counted : (w : World) → IsInWorld false n p facts h s w → s.marked_end ≡ length (w.kept p)
  kept_are_counted w A = (reached_itself n p facts h s R).marked_end ∙ ap length (sym (kept_are_marked w A))

  pub kept_are_promised : (w : World) → IsInWorld false n p facts h s w → s.marked ≡ promise_of (w.kept p)
  kept_are_promised w A = truth.promise ∙ ap promise_of (sym (kept_are_marked w A))

  -- a reply by the marked facts is one by all that are kept
  kept_reply : (b : Bool) (w : World) (q : RequestNo) (r : Reply) → IsInWorld b n p facts h s w → told_reply s q ≡ Some r → reply_of (world.decided_prefix (w.kept p)) q ≡ Some r
  kept_reply b w q r A e =
      let B : Begins (world.decided_prefix (marked_facts facts s)) (world.decided_prefix (marked_facts facts s ++ (if b then group_of s else []))) = fitting_prefix n p (marked_facts facts s) (if b then group_of s else []) (reached_front_fits b) in
      ap (λ z. reply_of (world.decided_prefix z) q) A.kept ∙ ap (λ z. reply_of z q) (sym B.is)
      ∙ same_reply (world.decided_prefix (marked_facts facts s)) B.rest q r (ap (λ z. reply_of z q) (sym truth.prefix) ∙ e)

  -- a reply that is told
  answered_in_world : (b : Bool) → IsRunInWorld b n p facts h s Answered
  answered_in_world b w A y = at (next_acknowledged s)
    where
      still : IsInWorld b n p (facts ++ []) h (acknowledged s) w
      still = no_more b n p facts h _ w (record { exists = A.exists; up = A.up; runs = A.runs; kept = A.kept; staged = A.staged; heard = A.heard; submitted = A.submitted })

      told : (q : RequestNo) (o : Option Reply) → told_reply s q ≡ o → IsRunFrom n w (option_map_or (λ reply. Acknowledge p q reply ∷ []) o []) × IsInWorld b n p (facts ++ []) h (acknowledged s) (after_steps w (option_map_or (λ reply. Acknowledge p q reply ∷ []) o []))
      told q None e = (tt, still)
      told q (Some r) e = ((((A.exists, A.up), kept_reply b w q r A e), tt), no_more b n p facts h _ _ (record { exists = A.exists; up = A.up; runs = A.runs; kept = A.kept; staged = A.staged; heard = A.heard; submitted = A.submitted }))

      at : (o : Option RequestNo) → IsRunFrom n w (option_map_or (λ q. option_map_or (λ reply. Acknowledge p q reply ∷ []) (told_reply s q) []) o []) × IsInWorld b n p (facts ++ []) h (acknowledged s) (after_steps w (option_map_or (λ q. option_map_or (λ reply. Acknowledge p q reply ∷ []) (told_reply s q) []) o []))
      at None = (tt, still)
      at (Some q) = told q (told_reply s q) refl

  -- each event that leaves the running group is a run of the world's steps
  pub reached_in_world : (b : Bool) (e : StateEvent) → IsProperEvent n e → LeavesTheGroup e → IsRunInWorld b n p facts h s e
  reached_in_world b (Told input) x l = told_in_world b input x
  reached_in_world b Grouped x l = λ w A y. (tt, no_more b n p facts h _ w (grouped_in_world b s.running n p facts h s w refl A))
  reached_in_world b PutBack x l = absurd l
  reached_in_world b Marked x l = absurd l
  reached_in_world b Left x l = left_in_world b
  reached_in_world b Answered x l = answered_in_world b

  -- the marked facts once the running group is marked too
  longer : (fs : List Fact) → s.running ≡ Some fs → take (s.marked_end + length fs) facts ≡ marked_facts facts s ++ fs
  longer fs e =
      let K : Knows (Unit {0}) n p facts h s = knows in
      let front : marked_facts facts s ≡ K.kept = ap (take s.marked_end) K.whole ∙ take_at K.kept (group_of s ++ s.staged) s.marked_end (sym K.count) in
      let c : length (K.kept ++ fs) ≡ s.marked_end + length fs = length-append K.kept fs ∙ ap (λ z. z + length fs) (sym K.count) in
      ap (take (s.marked_end + length fs)) (K.whole ∙ ap (λ z. K.kept ++ (option_map_or (λ group. group) z [] ++ s.staged)) e ∙ sym (append_assoc K.kept fs s.staged))
      ∙ take_at (K.kept ++ fs) s.staged (s.marked_end + length fs) c
      ∙ ap (λ z. z ++ fs) (sym front)

  -- marking a settled group is no step
  pub reached_marks : MarksWhatIsSettled n p facts h s
  unfolding marked_running
  reached_marks w A = at s.running refl
    where
      at : (o : Option (List Fact)) → s.running ≡ o → IsInWorld false n p facts h (option_map_or (λ fs. record s { running = None; marked = take_on_all s.marked fs; marked_end = s.marked_end + length fs }) o s) w
      at None e = absurd (false≢true (sym (ap is_some e) ∙ A.runs refl))
      at (Some fs) e = record { exists = A.exists; up = A.up; runs = λ x. absurd (false≢true x); kept = A.kept ∙ ap (λ z. marked_facts facts s ++ option_map_or (λ group. group) z []) e ∙ sym (longer fs e) ∙ sym (append-nil _); staged = A.staged; heard = A.heard; submitted = A.submitted }

-- the step that settles the running group
pub settles_in_world : (n p : ℕ) (facts : List Fact) (h : Heard) (s : NodeState) → SettlesItsGroup n p facts h s
settles_in_world n p facts h s w fs e A =
    let z : w.staged p ≡ fs ++ s.staged = A.staged ∙ ap (λ z. option_map_or (λ group. group) z [] ++ s.staged) e in
    let g : fs ≡ group_of s = sym (ap (λ z. option_map_or (λ group. group) z []) e) in (
      (((A.exists, A.up), let c : length (w.staged p) ≡ length (fs ++ s.staged) = ap length z in let l : length (fs ++ s.staged) ≡ length fs + length s.staged = length-append fs s.staged in omega arith), tt),
      record {
        exists = A.exists;
        up = A.up;
        runs = λ x. ap is_some e;
        kept = at_same w.kept p _ ∙ ap (λ z. z ++ take (length fs) (w.staged p)) (A.kept ∙ append-nil _) ∙ ap (λ z. marked_facts facts s ++ z) (ap (take (length fs)) z ∙ take_at fs s.staged (length fs) refl ∙ g);
        staged = at_same w.staged p _ ∙ ap (drop (length fs)) z ∙ drop_front fs s.staged;
        heard = A.heard;
        submitted = A.submitted;
      },
    )

-- a group that isn't settled may be put back
pub puts_back_in_world : (n p : ℕ) (facts : List Fact) (h : Heard) (s : NodeState) → PutsBackItsGroup n p facts h s
unfolding group_put_back
puts_back_in_world n p facts h s w A = record { exists = A.exists; up = A.up; runs = λ x. absurd (false≢true x); kept = A.kept; staged = A.staged; heard = A.heard; submitted = A.submitted }

-- the node goes down
pub goes_down_in_world : (b : Bool) (n p : ℕ) (facts : List Fact) (h : Heard) (s : NodeState) → GoesDown b n p facts h s
goes_down_in_world b n p facts h s w A = (((A.exists, A.up), tt), record { down = at_same w.is_up p false; keeps = refl; stages = refl; heard = at_same w.heard p _ })
