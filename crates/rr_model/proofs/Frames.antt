-- Steps at one node leave the others alone, and those of an event say just what the event says.
use Rattle.std.proofs.Common.{◌≡◌, ℕ, Bool, true, false, ◌==◌, if◌then◌else◌, List, [], ◌∷◌, ◌++◌, map, Option, None, Some, refl, ap, sym, ◌∙◌, subst, append-nil}
use Rattle.std.specs.Option.{option_map_or}
use Rattle.std.proofs.lemmas.Bool.{ne_eqb}
use Rattle.std.proofs.lemmas.List.Elements.{Contains-append_left}
use Rattle.rr_types.specs.declared.command.RequestNo.{RequestNo}
use Rattle.rr_types.specs.declared.command.Reply.{Reply}
use Rattle.rr_types.specs.declared.fact.Fact.{Fact}
use Rattle.rr_types.specs.declared.message.Message.{Message}
use Rattle.rr_model.specs.Lawful.{Heard}
use Rattle.rr_model.specs.World as world
use Rattle.rr_model.specs.World.{World, Step, Submit, Hear, Stage, Settle, Send, Acknowledge, GoDown, Restart, after_step, with_at}
use Rattle.rr_model.specs.Laws.{after_steps}
use Rattle.rr_model.specs.NodeState.{NodeState}
use Rattle.rr_types.specs.declared.input.Input.TheVariants as told
use Rattle.rr_types.specs.declared.input.Input.{Input}
use Rattle.rr_model.specs.NodeStep.{next_leaving, next_acknowledged}
use Rattle.rr_model.specs.NodeLaws.{StateEvent, Told, Grouped, PutBack, Marked, Left, Answered, facts_of_input}
use Rattle.rr_model.specs.NodeWorld.{step_of_input, told_reply, steps_of_event}
use Rattle.rr_model.specs.NodeInWorld.{IsInWorld, IsDownIn, node_of, AreStepsAt, LeavesAlone, SaysJustThat}
use Rattle.rr_model.proofs.Laws.{after_steps-append}

-- elsewhere the function is as it was
pub at_other : {A : Type 0} → (f : ℕ → A) (p : ℕ) (x : A) (q : ℕ) → (q ≡ p → ⊥) → with_at f p x q ≡ f q
at_other f p x q other = ap (λ b. if b then x else f q) (ne_eqb q p other)

itself : (q : ℕ) (w : World) → LeavesAlone q w w
itself q w = record { up = refl; kept = refl; staged = refl; heard = refl; submitted = λ c x. x; wire = λ m x. x }

pub alone_further : (q : ℕ) (u v w : World) → LeavesAlone q u v → LeavesAlone q v w → LeavesAlone q u w
alone_further q u v w a b = record { up = b.up ∙ a.up; kept = b.kept ∙ a.kept; staged = b.staged ∙ a.staged; heard = b.heard ∙ a.heard; submitted = λ c x. b.submitted c (a.submitted c x); wire = λ m x. b.wire m (a.wire m x) }

-- a step at another node
step_alone : (q : ℕ) (w : World) (s : Step) → (q ≡ node_of s → ⊥) → LeavesAlone q w (after_step w s)
step_alone q w (Submit p c) other = record { up = refl; kept = refl; staged = refl; heard = at_other w.heard p _ q other; submitted = λ d x. Contains-append_left w.submitted (c ∷ []) d x; wire = λ m x. x }
step_alone q w (Hear p m) other = record { up = refl; kept = refl; staged = refl; heard = at_other w.heard p _ q other; submitted = λ c x. x; wire = λ k x. x }
step_alone q w (Stage p f) other = record { up = refl; kept = refl; staged = at_other w.staged p _ q other; heard = refl; submitted = λ c x. x; wire = λ m x. x }
step_alone q w (Settle p count) other = record { up = refl; kept = at_other w.kept p _ q other; staged = at_other w.staged p _ q other; heard = refl; submitted = λ c x. x; wire = λ m x. x }
step_alone q w (Send p m) other = record { up = refl; kept = refl; staged = refl; heard = refl; submitted = λ c x. x; wire = λ k x. Contains-append_left w.wire (m ∷ []) k x }
step_alone q w (Acknowledge p k reply) other = record { up = refl; kept = refl; staged = refl; heard = refl; submitted = λ c x. x; wire = λ m x. x }
step_alone q w (GoDown p) other = record { up = at_other w.is_up p _ q other; kept = refl; staged = refl; heard = at_other w.heard p _ q other; submitted = λ c x. x; wire = λ m x. x }
step_alone q w (Restart p count) other = record { up = at_other w.is_up p _ q other; kept = at_other w.kept p _ q other; staged = at_other w.staged p _ q other; heard = refl; submitted = λ c x. x; wire = λ m x. x }

-- steps at another node
pub steps_alone : (q p : ℕ) (w : World) (ss : List Step) → (q ≡ p → ⊥) → AreStepsAt p ss → LeavesAlone q w (after_steps w ss)
steps_alone q p w [] other at = itself q w
steps_alone q p w (s ∷ ss) other at = alone_further q w (after_step w s) (after_steps (after_step w s) ss) (step_alone q w s (λ e. other (e ∙ at.0))) (steps_alone q p (after_step w s) ss other at.1)

-- a node that was left alone is in the world as before
pub stays_in_world : (b : Bool) (n q : ℕ) (facts : List Fact) (h : Heard) (s : NodeState) (w v : World) → LeavesAlone q w v → IsInWorld b n q facts h s w → IsInWorld b n q facts h s v
stays_in_world b n q facts h s w v a A = record { exists = A.exists; up = a.up ∙ A.up; runs = A.runs; kept = a.kept ∙ A.kept; staged = a.staged ∙ A.staged; heard = a.heard ∙ A.heard; submitted = λ c x. a.submitted c (A.submitted c x) }

-- and down as before
pub stays_down : (q : ℕ) (kept staged : List Fact) (w v : World) → LeavesAlone q w v → IsDownIn q kept staged w → IsDownIn q kept staged v
stays_down q kept staged w v a D = record { down = a.up ∙ D.down; keeps = a.kept ∙ D.keeps; stages = a.staged ∙ D.stages; heard = a.heard ∙ D.heard }

-- steps at a node, and more
pub steps_both : (p : ℕ) (xs ys : List Step) → AreStepsAt p xs → AreStepsAt p ys → AreStepsAt p (xs ++ ys)
steps_both p [] ys a b = b
steps_both p (x ∷ xs) ys a b = (a.0, steps_both p xs ys a.1 b)

stages_at : (p : ℕ) (fs : List Fact) → AreStepsAt p (map (Stage p) fs)
stages_at p [] = tt
stages_at p (f ∷ fs) = (refl, stages_at p fs)

input_at : (p : ℕ) (input : Input Message) → AreStepsAt p (step_of_input p input)
input_at p (told.Submit c) = (refl, tt)
input_at p (told.Hear m) = at (m.to == p)
  where
    at : (b : Bool) → AreStepsAt p (if b then Hear p m ∷ [] else [])
    at true = (refl, tt)
    at false = tt
input_at p input = tt

-- the steps of an event are at its node
pub event_at : (p : ℕ) (s : NodeState) (e : StateEvent) → AreStepsAt p (steps_of_event p s e)
event_at p s (Told input) = steps_both p (step_of_input p input) (map (Stage p) (facts_of_input s input)) (input_at p input) (stages_at p (facts_of_input s input))
event_at p s Grouped = tt
event_at p s PutBack = tt
event_at p s Marked = (refl, tt)
event_at p s Left = at (next_leaving s)
  where
    at : (o : Option Message) → AreStepsAt p (option_map_or (λ m. Send p m ∷ []) o [])
    at None = tt
    at (Some m) = (refl, tt)
event_at p s Answered = at (next_acknowledged s)
  where
    told : (q : RequestNo) (o : Option Reply) → AreStepsAt p (option_map_or (λ reply. Acknowledge p q reply ∷ []) o [])
    told q None = tt
    told q (Some reply) = (refl, tt)

    at : (o : Option RequestNo) → AreStepsAt p (option_map_or (λ q. option_map_or (λ reply. Acknowledge p q reply ∷ []) (told_reply s q) []) o [])
    at None = tt
    at (Some q) = told q (told_reply s q)

-- the second world has no more on the wire and in the trace than the first
record IsAsQuiet (w v : World) : Type 0 where
  wire : v.wire ≡ w.wire
  trace : v.trace ≡ w.trace

stages_quietly : (p : ℕ) (w : World) (fs : List Fact) → IsAsQuiet w (after_steps w (map (Stage p) fs))
stages_quietly p w [] = record { wire = refl; trace = refl }
stages_quietly p w (f ∷ fs) = let q : IsAsQuiet (after_step w (Stage p f)) (after_steps (after_step w (Stage p f)) (map (Stage p) fs)) = stages_quietly p (after_step w (Stage p f)) fs in record { wire = q.wire; trace = q.trace }

input_quietly : (p : ℕ) (w : World) (input : Input Message) → IsAsQuiet w (after_steps w (step_of_input p input))
input_quietly p w (told.Submit c) = record { wire = refl; trace = refl }
input_quietly p w (told.Hear m) = at (m.to == p)
  where
    at : (b : Bool) → IsAsQuiet w (after_steps w (if b then Hear p m ∷ [] else []))
    at true = record { wire = refl; trace = refl }
    at false = record { wire = refl; trace = refl }
input_quietly p w input = record { wire = refl; trace = refl }

says_nothing : (w v : World) → IsAsQuiet w v → (v.wire ≡ w.wire ++ []) × (v.trace ≡ w.trace ++ [])
says_nothing w v q = (q.wire ∙ sym (append-nil w.wire), q.trace ∙ sym (append-nil w.trace))

-- an event says just what it says
pub event_says : (p : ℕ) (s : NodeState) (e : StateEvent) → SaysJustThat p s e
event_says p s (Told input) w =
    let a : IsAsQuiet w (after_steps w (step_of_input p input)) = input_quietly p w input in
    let b : IsAsQuiet (after_steps w (step_of_input p input)) (after_steps (after_steps w (step_of_input p input)) (map (Stage p) (facts_of_input s input))) = stages_quietly p (after_steps w (step_of_input p input)) (facts_of_input s input) in
    subst (λ (v : World). (v.wire ≡ w.wire ++ []) × (v.trace ≡ w.trace ++ [])) (sym (after_steps-append w (step_of_input p input) (map (Stage p) (facts_of_input s input))))
    (says_nothing w (after_steps (after_steps w (step_of_input p input)) (map (Stage p) (facts_of_input s input))) (record { wire = b.wire ∙ a.wire; trace = b.trace ∙ a.trace }))
event_says p s Grouped w = says_nothing w w (record { wire = refl; trace = refl })
event_says p s PutBack w = says_nothing w w (record { wire = refl; trace = refl })
event_says p s Marked w = says_nothing w (after_steps w (steps_of_event p s Marked)) (record { wire = refl; trace = refl })
event_says p s Left w = at (next_leaving s)
  where
    at : (o : Option Message) → ((after_steps w (option_map_or (λ m. Send p m ∷ []) o [])).wire ≡ w.wire ++ option_map_or (λ m. m ∷ []) o []) × ((after_steps w (option_map_or (λ m. Send p m ∷ []) o [])).trace ≡ w.trace ++ option_map_or (λ m. world.Sent m ∷ []) o [])
    at None = says_nothing w w (record { wire = refl; trace = refl })
    at (Some m) = (refl, refl)
event_says p s Answered w = at (next_acknowledged s)
  where
    told : (q : RequestNo) (o : Option Reply) → ((after_steps w (option_map_or (λ reply. Acknowledge p q reply ∷ []) o [])).wire ≡ w.wire ++ []) × ((after_steps w (option_map_or (λ reply. Acknowledge p q reply ∷ []) o [])).trace ≡ w.trace ++ option_map_or (λ reply. world.Acknowledged p q reply ∷ []) o [])
    told q None = says_nothing w w (record { wire = refl; trace = refl })
    told q (Some reply) = (sym (append-nil w.wire), refl)

    at : (o : Option RequestNo) → ((after_steps w (option_map_or (λ q. option_map_or (λ reply. Acknowledge p q reply ∷ []) (told_reply s q) []) o [])).wire ≡ w.wire ++ []) × ((after_steps w (option_map_or (λ q. option_map_or (λ reply. Acknowledge p q reply ∷ []) (told_reply s q) []) o [])).trace ≡ w.trace ++ option_map_or (λ q. option_map_or (λ reply. world.Acknowledged p q reply ∷ []) (told_reply s q) []) o [])
    at None = says_nothing w w (record { wire = refl; trace = refl })
    at (Some q) = told q (told_reply s q)
