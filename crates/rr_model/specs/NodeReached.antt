-- The states that a node reaches by events, from an opening over facts that fit.
use Rattle.std.specs.Prelude.{◌≡◌, ℕ, ◌<◌, true, List, [], ◌++◌, length}
use Rattle.rr_types.specs.declared.fact.Fact.{Fact}
use Rattle.rr_types.specs.declared.message.Body.{Body}
use Rattle.rr_types.specs.declared.message.Body.TheVariants.{Estimate, Proposal, Ack, Decision, Request, Nack, Beat, Suspects, Ask}
use Rattle.rr_types.specs.Promises.{promise_of, all_fit}
use Rattle.rr_model.specs.Lawful.{Heard}
use Rattle.rr_model.specs.World.{nothing_heard}
use Rattle.rr_model.specs.NodeState.{NodeState}
use Rattle.rr_types.specs.declared.input.Input.{Input}
use Rattle.rr_types.specs.declared.message.Message.{Message}
use Rattle.rr_types.specs.declared.input.Input.TheVariants.{Hear}
use Rattle.rr_model.specs.NodeStep.{started}
use Rattle.rr_model.specs.NodeLaws.{AreLawful, StateEvent, Told, Grouped, PutBack, Marked, Left, Answered, after_event, heard_after, facts_of_event, StagesBehind, marked_facts}

-- the round that a message names is above 0
abbrev pub NamesRounds : Body → Type 0
NamesRounds (Estimate i e) = 0 < e.round
NamesRounds (Proposal i r v) = 0 < r
NamesRounds (Ack i r) = 0 < r
NamesRounds (Decision i v) = Unit {0}
NamesRounds (Request c) = Unit {0}
NamesRounds (Nack i r) = 0 < r
NamesRounds Beat = Unit {0}
NamesRounds (Suspects set) = Unit {0}
NamesRounds (Ask i) = Unit {0}

-- what may come to a node of n: a message is from one of the nodes and names rounds above 0
abbrev pub IsProperInput : ℕ → Input Message → Type 0
IsProperInput n (Hear m) = (m.from < n) × NamesRounds m.body
IsProperInput n _ = Unit {0}

-- the same of an event
abbrev pub IsProperEvent : ℕ → StateEvent → Type 0
IsProperEvent n (Told input) = IsProperInput n input
IsProperEvent n Grouped = Unit {0}
IsProperEvent n PutBack = Unit {0}
IsProperEvent n Marked = Unit {0}
IsProperEvent n Left = Unit {0}
IsProperEvent n Answered = Unit {0}

-- node p of n after its opening over these facts
abbrev pub opened_over : ℕ → ℕ → List Fact → NodeState
opened_over n p facts = started n p (promise_of facts) (length facts)

-- node p of n, opened over facts that fit, is in this state after some events, with these facts by now and after what it heard
pub data IsReached (n p : ℕ) : List Fact → Heard → NodeState → Type 0 where
  -- it was opened
  Opened : (facts : List Fact) → all_fit n p [] facts ≡ true → IsReached n p facts nothing_heard (opened_over n p facts)
  -- one more event happened
  Happened : (facts : List Fact) (h : Heard) (s : NodeState) (e : StateEvent) → IsReached n p facts h s
      → IsProperEvent n e
      → IsReached n p (facts ++ facts_of_event s e) (heard_after p h e) (after_event s e)

-- an event stages its facts behind the others, and they are lawful
abbrev pub StagesLawfully : ℕ → ℕ → List Fact → Heard → NodeState → StateEvent → Type 0
StagesLawfully n p facts h s e = StagesBehind s e × AreLawful n p facts (heard_after p h e) (facts_of_event s e)

-- the state is node p's of n, and counts its marked facts
pub record IsItself (n p : ℕ) (facts : List Fact) (s : NodeState) : Type 0 where
  pub nodes : s.nodes ≡ n
  pub node : s.node ≡ p
  pub marked_end : s.marked_end ≡ length (marked_facts facts s)
