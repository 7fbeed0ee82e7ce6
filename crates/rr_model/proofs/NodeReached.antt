-- What holds of a node that was reached: it is truthful and lawful, opens only the lowest instances, and its facts fit.
use Rattle.std.proofs.Common.{◌≡◌, ℕ, true, List, [], ◌∷◌, ◌++◌, length, take, refl, ap, sym, ◌∙◌, subst, append-nil}
use Rattle.std.proofs.lemmas.Bool.{and_from}
use Rattle.std.proofs.lemmas.List.{take_at}
use Rattle.rr_types.specs.declared.fact.Fact.{Fact}
use Rattle.rr_types.specs.Facts.{instance_of, standing_of}
use Rattle.rr_types.specs.Standings.{fits}
use Rattle.rr_types.specs.Promises.{promise_of, all_fit}
use Rattle.rr_model.specs.Lawful.{Heard}
use Rattle.rr_model.specs.NodeOpens.{OpensTheLowest}
use Rattle.rr_model.specs.NodeState.{NodeState}
use Rattle.rr_types.specs.declared.input.Input.{Input}
use Rattle.rr_types.specs.declared.message.Message.{Message}
use Rattle.rr_types.specs.declared.input.Input.TheVariants.{Hear}
use Rattle.rr_model.specs.NodeStep.{node_step}
use Rattle.rr_model.specs.NodeLaws.{AreLawful, StateEvent, Told, Grouped, PutBack, Marked, Left, Answered, after_event, heard_input, heard_after, IsInputOfNodes, IsEventOfNodes, facts_of_event, marked_facts, IsTruthful}
use Rattle.rr_model.specs.NodeReached.{IsProperInput, IsProperEvent, IsReached, Opened, Happened, StagesLawfully, IsItself}
use Rattle.rr_model.proofs.Permitted.{lawful_permitted}
use Rattle.rr_model.proofs.Promised.{standing_in-promise_of, lawful_fits}
use Rattle.rr_model.proofs.Fits.{take_both, fit_both}
use Rattle.rr_model.proofs.NodeKnows.{in_flight, Knows}
use Rattle.rr_model.proofs.NodeStages.{Fitting, Steps, steps, step_goes, event_knows, moment, started_knows}

-- a proper event is from the nodes
input_of_nodes : (n : ℕ) (input : Input Message) → IsProperInput n input → IsInputOfNodes n input
input_of_nodes n (Hear m) x = x.0
input_of_nodes n input x = tt

pub event_of_nodes : (n : ℕ) (e : StateEvent) → IsProperEvent n e → IsEventOfNodes n e
event_of_nodes n (Told input) x = input_of_nodes n input x
event_of_nodes n Grouped x = tt
event_of_nodes n PutBack x = tt
event_of_nodes n Marked x = tt
event_of_nodes n Left x = tt
event_of_nodes n Answered x = tt

-- what is known where the facts of the opening are known to fit
known_to_fit : (X : Type 0) → X → (n p : ℕ) (facts : List Fact) (h : Heard) (s : NodeState) → Knows X n p facts h s → Knows (Unit {0}) n p facts h s
known_to_fit X x n p facts h s K = record {
  nodes = K.nodes;
  node = K.node;
  standings = K.standings;
  pooled = K.pooled;
  tallied = K.tallied;
  kept = K.kept;
  whole = K.whole;
  count = K.count;
  promise = K.promise;
  backed = λ u. K.backed x;
  owed = λ u. K.owed x;
}

-- a node that was reached knows what it should
pub reached_knows : (n p : ℕ) (facts : List Fact) (h : Heard) (s : NodeState) → IsReached n p facts h s → Knows (Unit {0}) n p facts h s
reached_knows n p facts h s (Opened fs fit) = known_to_fit (Fitting n p fs) fit n p fs _ _ (started_knows n p fs)
reached_knows n p facts h s (Happened fs g t e r x) = event_knows (Unit {0}) tt n p fs g t e (event_of_nodes n e x) (reached_knows n p fs g t r)

module _ (n p : ℕ) (facts : List Fact) (h : Heard) (s : NodeState) (R : IsReached n p facts h s) where
  -- it says only what its facts back
  pub reached_truthful : IsTruthful p facts h s
  reached_truthful = moment (Unit {0}) tt n p facts h s (reached_knows n p facts h s R)

  -- it is the node that was opened, and counts its marked facts
  pub reached_itself : IsItself n p facts s
  reached_itself =
      let K : Knows (Unit {0}) n p facts h s = reached_knows n p facts h s R in
      let front : marked_facts facts s ≡ K.kept = ap (take s.marked_end) K.whole ∙ take_at K.kept (in_flight s.running ++ s.staged) s.marked_end (sym K.count) in
      record { nodes = K.nodes; node = K.node; marked_end = K.count ∙ ap length (sym front) }

  -- it stages only lawful facts
  pub reached_lawful : (e : StateEvent) → IsProperEvent n e → StagesLawfully n p facts h s e
  reached_lawful (Told input) x =
      let g : Steps (Unit {0}) n p facts (heard_input p h input) s (node_step input s) = steps (Unit {0}) n p facts (heard_input p h input) s (node_step input s) (step_goes (Unit {0}) n p facts h s input (input_of_nodes n input x) (reached_knows n p facts h s R)) in
      (g.behind, g.lawful)
  reached_lawful Grouped x = (tt, tt)
  reached_lawful PutBack x = (tt, tt)
  reached_lawful Marked x = (tt, tt)
  reached_lawful Left x = (tt, tt)
  reached_lawful Answered x = (tt, tt)

  -- and those of open instances alone, decisions aside
  pub reached_opens : (e : StateEvent) → IsProperEvent n e → OpensTheLowest facts s e
  reached_opens (Told input) x =
      (steps (Unit {0}) n p facts (heard_input p h input) s (node_step input s) (step_goes (Unit {0}) n p facts h s input (input_of_nodes n input x) (reached_knows n p facts h s R))).low
  reached_opens Grouped x = tt
  reached_opens PutBack x = tt
  reached_opens Marked x = tt
  reached_opens Left x = tt
  reached_opens Answered x = tt

-- lawful facts fit the promise of those before them
lawful_all_fit : (n p : ℕ) (before : List Fact) (h : Heard) (more : List Fact) → AreLawful n p before h more → all_fit n p (promise_of before) more ≡ true
lawful_all_fit n p before h [] l = refl
lawful_all_fit n p before h (f ∷ fs) l = and_from _ _
    (subst (λ z. fits n p z f ≡ true) (sym (standing_in-promise_of before (instance_of f))) (lawful_fits n p (standing_of (instance_of f) before) h f (lawful_permitted n p (standing_of (instance_of f) before) h f l.0)))
    (subst (λ z. all_fit n p z fs ≡ true) (sym (take_both [] before (f ∷ []))) (lawful_all_fit n p (before ++ f ∷ []) h fs l.1))

-- the facts of a node that was reached fit
pub reached_fits : (n p : ℕ) (facts : List Fact) (h : Heard) (s : NodeState) → IsReached n p facts h s → all_fit n p [] facts ≡ true
reached_fits n p facts h s (Opened fs fit) = fit
reached_fits n p facts h s (Happened fs g t e r x) = fit_both n p [] fs (facts_of_event t e) (reached_fits n p fs g t r) (lawful_all_fit n p fs (heard_after p g e) (facts_of_event t e) (reached_lawful n p fs g t r e x).1)

-- an event that stages nothing leaves the facts as they were
pub reached_still : (n p : ℕ) (facts : List Fact) (h : Heard) (s : NodeState) (e : StateEvent) → IsReached n p facts h s → IsProperEvent n e → facts_of_event s e ≡ [] → IsReached n p facts (heard_after p h e) (after_event s e)
reached_still n p facts h s e R x none = subst (λ z. IsReached n p z (heard_after p h e) (after_event s e)) (ap (λ z. facts ++ z) none ∙ append-nil facts) (Happened facts h s e R x)
