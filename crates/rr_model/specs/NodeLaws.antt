-- What happens at a node, and what must hold then: it stages only lawful facts, and says only what its facts back.
use Rattle.std.specs.Prelude.{◌≡◌, ℕ, ◌+◌, ◌<◌, ◌==◌, if◌then◌else◌, List, [], ◌∷◌, ◌++◌, length, take, drop, Some, is_none}
use Rattle.std.specs.Option.{option_map_or}
use Rattle.std.specs.List.{Contains}
use Rattle.rr_types.specs.declared.command.Command.{Command}
use Rattle.rr_types.specs.declared.command.RequestNo.{RequestNo}
use Rattle.rr_types.specs.declared.command.Reply.{Reply}
use Rattle.rr_types.specs.declared.fact.Fact.{Fact}
use Rattle.rr_types.specs.declared.message.Body.{Body}
use Rattle.rr_types.specs.declared.message.Body.TheVariants.{Estimate, Proposal, Ack, Decision, Request, Nack, Beat, Suspects, Ask}
use Rattle.rr_types.specs.declared.message.Message.{Message}
use Rattle.rr_types.specs.Registry.{reply_of}
use Rattle.rr_types.specs.Promises.{promise_of}
use Rattle.rr_model.specs.Lawful.{Heard, IsLawful, IsBacked}
use Rattle.rr_model.specs.World as world
use Rattle.rr_model.specs.World.{nothing_heard}
use Rattle.rr_model.specs.NodeState.{NodeState, Owed, decided_prefix}
use Rattle.rr_types.specs.declared.input.Input.{Input}
use Rattle.rr_types.specs.declared.input.Input.TheVariants.{Submit, Hear}
use Rattle.rr_model.specs.NodeStep.{node_step, group_taken, group_put_back, marked_running, message_left, next_leaving, next_acknowledged, acknowledged, started}

-- the facts are lawful for node p of n one after another, behind those before them, after what it heard
abbrev pub AreLawful : ℕ → ℕ → List Fact → Heard → List Fact → Type 0
AreLawful n p before h [] = Unit {0}
AreLawful n p before h (f ∷ fs) = IsLawful n p before h f × AreLawful n p (before ++ f ∷ []) h fs

-- what happens to the state of a node that is up
pub data StateEvent : Type 0 where
  -- an input comes in
  Told : Input Message → StateEvent
  -- its oldest staged facts become the running group, where none runs
  Grouped : StateEvent
  -- the running group is staged again
  PutBack : StateEvent
  -- the running group is marked
  Marked : StateEvent
  -- an owed message leaves
  Left : StateEvent
  -- a request is acknowledged
  Answered : StateEvent

-- the node after an event
abbrev pub after_event : NodeState → StateEvent → NodeState
after_event s (Told input) = node_step input s
after_event s Grouped = if is_none s.running then group_taken s else s
after_event s PutBack = group_put_back s
after_event s Marked = marked_running s
after_event s Left = message_left s
after_event s Answered = acknowledged s

-- what was heard, and this message
abbrev pub hear_message : Heard → Message → Heard
hear_message h m = record { messages = h.messages ++ m ∷ []; commands = h.commands }

-- what was heard, and this command
abbrev pub hear_command : Heard → Command → Heard
hear_command h c = record { messages = h.messages; commands = h.commands ++ c ∷ [] }

-- what node p has heard, this input included: messages for it, and commands submitted to it
abbrev pub heard_input : ℕ → Heard → Input Message → Heard
heard_input p h (Submit c) = hear_command h c
heard_input p h (Hear m) = if m.to == p then hear_message h m else h
heard_input p h _ = h

-- what node p has heard once this event has happened
abbrev pub heard_after : ℕ → Heard → StateEvent → Heard
heard_after p h (Told input) = heard_input p h input
heard_after p h Grouped = h
heard_after p h PutBack = h
heard_after p h Marked = h
heard_after p h Left = h
heard_after p h Answered = h

-- a message that is heard is from one of the n nodes
abbrev pub IsInputOfNodes : ℕ → Input Message → Type 0
IsInputOfNodes n (Hear m) = m.from < n
IsInputOfNodes n _ = Unit {0}

-- the same of an event
abbrev pub IsEventOfNodes : ℕ → StateEvent → Type 0
IsEventOfNodes n (Told input) = IsInputOfNodes n input
IsEventOfNodes n Grouped = Unit {0}
IsEventOfNodes n PutBack = Unit {0}
IsEventOfNodes n Marked = Unit {0}
IsEventOfNodes n Left = Unit {0}
IsEventOfNodes n Answered = Unit {0}

-- the same of all events of a list
abbrev pub AreEventsOfNodes : ℕ → List StateEvent → Type 0
AreEventsOfNodes n [] = Unit {0}
AreEventsOfNodes n (e ∷ es) = IsEventOfNodes n e × AreEventsOfNodes n es

-- the facts that an input stages: those behind what was staged
abbrev pub facts_of_input : NodeState → Input Message → List Fact
facts_of_input s input = drop (length s.staged) (node_step input s).staged

-- the facts that an event stages; only inputs stage any
abbrev pub facts_of_event : NodeState → StateEvent → List Fact
facts_of_event s (Told input) = facts_of_input s input
facts_of_event s Grouped = []
facts_of_event s PutBack = []
facts_of_event s Marked = []
facts_of_event s Left = []
facts_of_event s Answered = []

-- an input stages its facts behind those staged before it
abbrev pub StagesBehind : NodeState → StateEvent → Type 0
StagesBehind s (Told input) = (node_step input s).staged ≡ s.staged ++ facts_of_input s input
StagesBehind s Grouped = Unit {0}
StagesBehind s PutBack = Unit {0}
StagesBehind s Marked = Unit {0}
StagesBehind s Left = Unit {0}
StagesBehind s Answered = Unit {0}

-- node p of n, which has these facts and heard this, stages only lawful facts in these events: each is lawful behind
-- the facts before it, after what was heard up to its event
abbrev pub StagesOnlyLawful : ℕ → ℕ → List Fact → Heard → NodeState → List StateEvent → Type 0
StagesOnlyLawful n p facts h s [] = Unit {0}
StagesOnlyLawful n p facts h s (e ∷ es) =
    StagesBehind s e
    × AreLawful n p facts (heard_after p h e) (facts_of_event s e)
    × StagesOnlyLawful n p (facts ++ facts_of_event s e) (heard_after p h e) (after_event s e) es

-- node p of n, opened over these facts, stages only lawful facts, whatever happens at it
abbrev pub IsLawfulNode : ℕ → ℕ → List Fact → Type 0
IsLawfulNode n p facts =
    (es : List StateEvent) → AreEventsOfNodes n es
    → StagesOnlyLawful n p facts nothing_heard (started n p (promise_of facts) (length facts)) es

-- an acknowledgement is of a round above 0, as all rounds of messages are
abbrev pub HasRound : Body → Type 0
HasRound (Estimate i e) = Unit {0}
HasRound (Proposal i r v) = Unit {0}
HasRound (Ack i r) = 0 < r
HasRound (Decision i v) = Unit {0}
HasRound (Request c) = Unit {0}
HasRound (Nack i r) = Unit {0}
HasRound Beat = Unit {0}
HasRound (Suspects set) = Unit {0}
HasRound (Ask i) = Unit {0}

-- a request that a node sends on is for a command that some client submitted
abbrev pub IsOfSubmitted : Body → List Command → Type 0
IsOfSubmitted (Estimate i e) submitted = Unit {0}
IsOfSubmitted (Proposal i r v) submitted = Unit {0}
IsOfSubmitted (Ack i r) submitted = Unit {0}
IsOfSubmitted (Decision i v) submitted = Unit {0}
IsOfSubmitted (Request c) submitted = Contains submitted c
IsOfSubmitted (Nack i r) submitted = Unit {0}
IsOfSubmitted Beat submitted = Unit {0}
IsOfSubmitted (Suspects set) submitted = Unit {0}
IsOfSubmitted (Ask i) submitted = Unit {0}

-- the facts of a node that are marked: as many as their number says
abbrev pub marked_facts : List Fact → NodeState → List Fact
marked_facts facts s = take s.marked_end facts

-- what holds of node p at a moment, with these facts and after what it heard
pub record IsTruthful (p : ℕ) (facts : List Fact) (h : Heard) (s : NodeState) : Type 0 where
  -- its facts are the marked ones, those of the running group and those staged behind it
  pub together : facts ≡ marked_facts facts s ++ (option_map_or (λ group. group) s.running [] ++ s.staged)
  -- it knows the promise of the marked ones
  pub promise : s.marked ≡ promise_of (marked_facts facts s)
  -- an owed message that waits for fact number k is backed by the facts up to that one
  pub owed : (o : Owed) (k : ℕ) → Contains s.owed o → o.backing ≡ Some k → HasRound o.message.body → IsBacked o.message.body (take (k + 1) facts)
  -- a message that leaves is its own, backed by marked facts, and a request in it was submitted here
  pub leaving : (m : Message) → next_leaving s ≡ Some m → HasRound m.body
      → (m.from ≡ p) × IsBacked m.body (marked_facts facts s) × IsOfSubmitted m.body h.commands
  -- its decided prefix is that of the marked facts
  pub prefix : decided_prefix s ≡ world.decided_prefix (marked_facts facts s)
  -- a request that it acknowledges has a reply by that prefix
  pub answering : (q : RequestNo) → next_acknowledged s ≡ Some q → (reply : Reply) × (reply_of (world.decided_prefix (marked_facts facts s)) q ≡ Some reply)

-- that holds at each moment of these events
abbrev pub StaysTruthful : ℕ → List Fact → Heard → NodeState → List StateEvent → Type 0
StaysTruthful p facts h s [] = IsTruthful p facts h s
StaysTruthful p facts h s (e ∷ es) = IsTruthful p facts h s × StaysTruthful p (facts ++ facts_of_event s e) (heard_after p h e) (after_event s e) es

-- node p of n, opened over these facts, says only what its facts back, whatever happens at it
abbrev pub IsTruthfulNode : ℕ → ℕ → List Fact → Type 0
IsTruthfulNode n p facts =
    (es : List StateEvent) → AreEventsOfNodes n es
    → StaysTruthful p facts nothing_heard (started n p (promise_of facts) (length facts)) es
