-- A tape run: what the events of a tape are to nodes that keep everything, and what the world makes of them.
use Rattle.std.specs.Prelude.{◌≡◌, ◌≢◌, ℕ, suc, List, [], ◌∷◌, ◌++◌, length, map, take, slice_get, slice_set, None, Some, IsSome}
use Rattle.std.specs.List.{Contains, flat_map, range_with_len}
use Rattle.rr_types.specs.declared.command.Command.{Command}
use Rattle.rr_types.specs.declared.command.RequestNo.{RequestNo}
use Rattle.rr_types.specs.declared.command.Reply.{Reply}
use Rattle.rr_types.specs.declared.message.Body.TheVariants.{Decision}
use Rattle.rr_types.specs.declared.message.Message.{Message}
use Rattle.rr_types.specs.Inputs.{told_as, message_on}
use Rattle.rr_types.specs.Registry.{reply_of}
use Rattle.rr_model.specs.NodeLaws.{StateEvent, Told, Grouped, Marked, Left, Answered, after_event}
use Rattle.rr_model.specs.NodeState.{NodeState, decided_prefix}
use Rattle.rr_types.specs.declared.input.Input.{Input}
use Rattle.rr_types.specs.declared.input.Input.TheVariants as node
use Rattle.rr_model.specs.NodeStep.{refusal_of, next_leaving, next_acknowledged, started}
use Rattle.rr_model.specs.NodeWorld.{steps_of_event}
use Rattle.rr_model.specs.Sound.{IsDecidedList, IsSound}
use Rattle.rr_model.specs.World as world
use Rattle.rr_model.specs.World.{Step, Restart, Sent, Acknowledged, IsRun, end_of}
use Rattle.rr_text.specs.declared.tape_event.TapeEvent.{TapeEvent}
use Rattle.rr_text.specs.declared.tape_event.Recorded.{Recorded}
use Rattle.rr_text.specs.declared.tape_event.Recorded.TheVariants as tape
use Rattle.rr_text.specs.Taped.{of_node}
use Rattle.rr_audit.specs.declared.auditing.Verdict.{Verdict}
use Rattle.rr_audit.specs.declared.auditing.Verdict.TheVariants.{Yes, No}

-- the nodes, all up, by their numbers, and all messages ever sent
pub record Replay : Type 0 where
  pub nodes : List NodeState
  pub wire : List Message

-- n nodes that have opened over no facts, and nothing sent
abbrev pub new_replay : ℕ → Replay
new_replay n = record { nodes = map (λ p. started n p [] 0) (range_with_len 0 n); wire = [] }

-- what node p in this state does by what the tape has of it, where that is next over this wire: it doesn't refuse the
-- input, and it has just this group to take or to mark, this message to send, or this reply to give
abbrev pub IsNextOf : List Message → ℕ → NodeState → Recorded → StateEvent → Type 0
IsNextOf wire p s (tape.Told input) does =
    (told : Input Message) × (told_as (message_on wire p) input ≡ Some told) × (does ≡ Told told) × (refusal_of told s ≡ None)
IsNextOf wire p s tape.Take does = (does ≡ Grouped) × (s.running ≡ None) × (s.staged ≢ [])
IsNextOf wire p s tape.Mark does = (does ≡ Marked) × IsSome s.running
IsNextOf wire p s (tape.Sent k m) does = (does ≡ Left) × (k ≡ length wire) × (next_leaving s ≡ Some m)
IsNextOf wire p s (tape.Acked q reply) does = (does ≡ Answered) × (next_acknowledged s ≡ Some q) × (reply_of (decided_prefix s) q ≡ Some reply)

-- the same of an event at its node
abbrev pub IsNextAt : List Message → NodeState → TapeEvent → StateEvent → Type 0
IsNextAt wire s e does = IsNextOf wire e.node s e.what does

-- the world gives an event of the tape next: the state of its node, and what the node does
pub record IsNext (r : Replay) (e : TapeEvent) : Type 0 where
  pub state : NodeState
  pub does : StateEvent
  pub here : slice_get r.nodes e.node ≡ Some state
  pub next : IsNextAt r.wire state e does

-- the messages that an event puts on the wire, by what the tape has of it
abbrev pub sent_of : Recorded → List Message
sent_of (tape.Sent k m) = m ∷ []
sent_of _ = []

abbrev pub sent_by : TapeEvent → List Message
sent_by e = sent_of e.what

-- what an event of node p lets others know
abbrev pub told_of : ℕ → Recorded → List world.Told
told_of p (tape.Sent k m) = Sent m ∷ []
told_of p (tape.Acked q reply) = Acknowledged p q reply ∷ []
told_of p _ = []

abbrev pub told_by : TapeEvent → List world.Told
told_by e = told_of e.node e.what

-- what an event submits
abbrev pub submitted_of : Recorded → List Command
submitted_of (tape.Told (node.Submit c)) = c ∷ []
submitted_of _ = []

abbrev pub submitted_by : TapeEvent → List Command
submitted_by e = submitted_of e.what

-- the replay after an event by which its node, in this state before, does this
abbrev pub replayed : TapeEvent → NodeState → StateEvent → Replay → Replay
replayed e s does r = record { nodes = slice_set r.nodes e.node (after_event s does); wire = r.wire ++ sent_by e }

-- the events lead from one replay to another by these steps of the world: the world gives each event next, and its
-- steps are those that the definition of a node has for it
abbrev pub Leads : List TapeEvent → Replay → List Step → Replay → Type 0
Leads [] old steps new = (steps ≡ []) × (new ≡ old)
Leads (e ∷ es) old steps new =
    (next : IsNext old e) × (rest : List Step) × (steps ≡ steps_of_event e.node next.state next.does ++ rest)
    × Leads es (replayed e next.state next.does old) rest new

-- n nodes restart over empty disks
abbrev pub openings : ℕ → List Step
openings n = map (λ p. Restart p 0) (range_with_len 0 n)

-- the events are a tape run of n nodes: the world gives each of them next, and behind the openings their steps are a
-- sound run of it, in which just that is sent, told and submitted that the tape has
pub record IsTapeRun (n : ℕ) (events : List TapeEvent) : Type 0 where
  pub steps : List Step
  pub at_the_end : Replay
  pub leads : Leads events (new_replay n) steps at_the_end
  pub is_a_run : IsRun n (openings n ++ steps)
  pub is_sound : IsSound n (openings n ++ steps)
  pub wire : (end_of (openings n ++ steps)).wire ≡ flat_map sent_by events
  pub told : (end_of (openings n ++ steps)).trace ≡ (end_of (openings n)).trace ++ flat_map told_by events
  pub submitted : (end_of (openings n ++ steps)).submitted ≡ flat_map submitted_by events

-- node p is asked for a command; it sends a message, which has number k; it acknowledges a request
abbrev pub submits : ℕ → Command → TapeEvent
submits p c = of_node p (tape.Told (node.Submit c))

abbrev pub sends : ℕ → ℕ → Message → TapeEvent
sends p k m = of_node p (tape.Sent k m)

abbrev pub acks : ℕ → RequestNo → Reply → TapeEvent
acks p q reply = of_node p (tape.Acked q reply)

-- what the tape of n nodes says agrees with one list of commands, the decided list of the messages on it
pub record AgreesWithOneList (n : ℕ) (events : List TapeEvent) : Type 0 where
  pub list : List Command
  pub decided : IsDecidedList n (flat_map sent_by events) list
  -- each command of the list was submitted
  pub submitted : (c : Command) → Contains list c → (p : ℕ) × Contains events (submits p c)
  -- an acknowledged reply is the list's
  pub replies : (p : ℕ) (q : RequestNo) (reply : Reply) → Contains events (acks p q reply) → reply_of list q ≡ Some reply
  -- no two nodes say that an instance has decided differently
  pub decisions : (p q j k i : ℕ) (m o : Message) (v w : Command) → Contains events (sends p j m) → Contains events (sends q k o) →
      m.body ≡ Decision i v → o.body ≡ Decision i w → v ≡ w
  -- a command acknowledged by a moment stands before each command that was first submitted later (Herlihy and Wing 1990):
  -- the list up to that one gives each reply acknowledged by then
  pub real_time : (before after : List TapeEvent) → events ≡ before ++ after →
      (p : ℕ) (q : RequestNo) (reply : Reply) → Contains before (acks p q reply) →
      (v : Command) → ((at : ℕ) → Contains before (submits at v) → ⊥) →
      (k : ℕ) → slice_get list k ≡ Some v → reply_of (take k list) q ≡ Some reply

-- the event of this number, from 1, is the first that the world doesn't give next: those before it are a tape run
pub record StopsAt (n : ℕ) (events : List TapeEvent) (number : ℕ) : Type 0 where
  pub before : List TapeEvent
  pub event : TapeEvent
  pub after : List TapeEvent
  pub split : events ≡ before ++ event ∷ after
  pub counted : number ≡ suc (length before)
  pub run : IsTapeRun n before
  pub one_list : AgreesWithOneList n before
  pub strange : IsNext run.at_the_end event → ⊥

-- what an audit finds
abbrev pub IsVerdict : ℕ → List TapeEvent → Verdict → Type 0
IsVerdict n events (Yes count) = (count ≡ length events) × IsTapeRun n events × AgreesWithOneList n events
IsVerdict n events (No number p given) = StopsAt n events number
