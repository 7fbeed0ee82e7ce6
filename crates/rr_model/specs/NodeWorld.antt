-- Which steps of the world an event of a node is, and what it means that a node does nothing else.
use Rattle.std.specs.Prelude.{◌≡◌, ℕ, ◌<◌, true, ◌==◌, if◌then◌else◌, List, [], ◌∷◌, ◌++◌, length, map, Option, Some}
use Rattle.std.specs.Option.{option_map_or}
use Rattle.std.specs.List.{Contains}
use Rattle.rr_types.specs.declared.command.Command.{Command}
use Rattle.rr_types.specs.declared.command.RequestNo.{RequestNo}
use Rattle.rr_types.specs.declared.command.Reply.{Reply}
use Rattle.rr_types.specs.declared.fact.Fact.{Fact}
use Rattle.rr_types.specs.declared.message.Message.{Message}
use Rattle.rr_types.specs.Promises.{promise_of}
use Rattle.rr_types.specs.Registry.{reply_of}
use Rattle.rr_model.specs.Lawful.{Heard}
use Rattle.rr_model.specs.World as world
use Rattle.rr_model.specs.World.{World, Step, Stage, Settle, Send, Acknowledge, nothing_heard, IsRunFrom}
use Rattle.rr_model.specs.Laws.{after_steps}
use Rattle.rr_model.specs.NodeState.{NodeState, decided_prefix}
use Rattle.rr_types.specs.declared.input.Input.{Input}
use Rattle.rr_types.specs.declared.input.Input.TheVariants.{Submit, Hear}
use Rattle.rr_model.specs.NodeStep.{next_leaving, next_acknowledged, started}
use Rattle.rr_model.specs.NodeLaws.{StateEvent, Told, Grouped, PutBack, Marked, Left, Answered, after_event, heard_after, AreEventsOfNodes, facts_of_input, facts_of_event, HasRound, marked_facts}

-- what an input is in the world: a submit or a message for the node is a step, the rest is the node's own affair
abbrev pub step_of_input : ℕ → Input Message → List Step
step_of_input p (Submit c) = world.Submit p c ∷ []
step_of_input p (Hear m) = if m.to == p then world.Hear p m ∷ [] else []
step_of_input p _ = []

-- the reply that the node tells to a request
abbrev pub told_reply : NodeState → RequestNo → Option Reply
told_reply s q = reply_of (decided_prefix s) q

-- the steps of the world that an event of node p is: an input, and each fact that it stages; the facts of the group
-- that is marked are kept from then on; a message leaves; a reply is told
abbrev pub steps_of_event : ℕ → NodeState → StateEvent → List Step
steps_of_event p s (Told input) = step_of_input p input ++ map (Stage p) (facts_of_input s input)
steps_of_event p s Grouped = []
steps_of_event p s PutBack = []
steps_of_event p s Marked = Settle p (length (option_map_or (λ group. group) s.running [])) ∷ []
steps_of_event p s Left = option_map_or (λ m. Send p m ∷ []) (next_leaving s) []
steps_of_event p s Answered =
    option_map_or (λ q. option_map_or (λ reply. Acknowledge p q reply ∷ []) (told_reply s q) []) (next_acknowledged s) []

-- the world has node p of n up in this state, with these facts, after what it heard: its marked facts are kept, the
-- others staged, and what was submitted here was submitted
pub record IsAtNode (n p : ℕ) (facts : List Fact) (h : Heard) (s : NodeState) (w : World) : Type 0 where
  pub exists : p < n
  pub up : w.is_up p ≡ true
  pub kept : w.kept p ≡ marked_facts facts s
  pub staged : w.staged p ≡ option_map_or (λ group. group) s.running [] ++ s.staged
  pub heard : w.heard p ≡ h
  pub submitted : (c : Command) → Contains h.commands c → Contains w.submitted c

-- a message may be heard only from the wire
abbrev pub IsInputOfWorld : World → ℕ → Input Message → Type 0
IsInputOfWorld w p (Hear m) = m.to ≡ p → Contains w.wire m
IsInputOfWorld w p _ = Unit {0}

-- where an event may come: its message is on the wire, or the one that leaves has a round above 0
abbrev pub MayCome : World → ℕ → NodeState → StateEvent → Type 0
MayCome w p s (Told input) = IsInputOfWorld w p input
MayCome w p s Grouped = Unit {0}
MayCome w p s PutBack = Unit {0}
MayCome w p s Marked = Unit {0}
MayCome w p s Left = (m : Message) → next_leaving s ≡ Some m → HasRound m.body
MayCome w p s Answered = Unit {0}

-- an event of the node is a run of the world's steps, behind which the world has the node as the event left it
abbrev pub IsRunOfSteps : ℕ → ℕ → List Fact → Heard → NodeState → StateEvent → Type 0
IsRunOfSteps n p facts h s e =
    (w : World) → IsAtNode n p facts h s w → MayCome w p s e
    → IsRunFrom n w (steps_of_event p s e)
    × IsAtNode n p (facts ++ facts_of_event s e) (heard_after p h e) (after_event s e) (after_steps w (steps_of_event p s e))

-- that holds of each of these events in turn
abbrev pub FollowsTheWorld : ℕ → ℕ → List Fact → Heard → NodeState → List StateEvent → Type 0
FollowsTheWorld n p facts h s [] = Unit {0}
FollowsTheWorld n p facts h s (e ∷ es) =
    IsRunOfSteps n p facts h s e × FollowsTheWorld n p (facts ++ facts_of_event s e) (heard_after p h e) (after_event s e) es

-- node p of n, opened over these facts, does nothing but steps of the world, whatever happens at it
abbrev pub IsWorldlyNode : ℕ → ℕ → List Fact → Type 0
IsWorldlyNode n p facts =
    (es : List StateEvent) → AreEventsOfNodes n es
    → FollowsTheWorld n p facts nothing_heard (started n p (promise_of facts) (length facts)) es
