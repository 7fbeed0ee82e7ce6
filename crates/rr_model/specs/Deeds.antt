-- A history of what nodes do, with their stops and starts: which lists of deeds are one, its premise on disks, and the one list.
use Rattle.std.specs.Prelude.{◌≡◌, ◌≢◌, ℕ, ◌<◌, ◌≤◌, List, [], ◌∷◌, ◌++◌, length, take, slice_get, Option, None, Some, IsSome}
use Rattle.std.specs.Option.{option_map, option_map_or}
use Rattle.std.specs.List.{Contains, flat_map}
use Rattle.rr_types.specs.declared.command.Command.{Command}
use Rattle.rr_types.specs.declared.command.RequestNo.{RequestNo}
use Rattle.rr_types.specs.declared.command.Reply.{Reply}
use Rattle.rr_types.specs.declared.fact.Fact.{Fact}
use Rattle.rr_types.specs.declared.input.Input.{Input}
use Rattle.rr_types.specs.declared.input.Input.TheVariants.{Submit, Hear}
use Rattle.rr_types.specs.declared.message.Body.TheVariants.{Decision}
use Rattle.rr_types.specs.declared.message.Message.{Message}
use Rattle.rr_types.specs.declared.promise.Entry.{Entry}
use Rattle.rr_types.specs.Promises.{promise_of, decided_from}
use Rattle.rr_types.specs.Registry.{reply_of}
use Rattle.rr_model.specs.NodeInWorld.{group_of}
use Rattle.rr_model.specs.NodeLaws as node
use Rattle.rr_model.specs.NodeLaws.{StateEvent, Grouped, Left, Answered, after_event}
use Rattle.rr_model.specs.NodeState.{NodeState, decided_prefix}
use Rattle.rr_model.specs.NodeStep.{refusal_of, next_leaving, next_acknowledged, started}
use Rattle.rr_model.specs.Sound.{IsDecidedList}
use Rattle.rr_model.specs.World.{with_at}
use Rattle.rr_model.specs.declared.deed.Deed.{Deed}
use Rattle.rr_model.specs.declared.deed.What.{What}
use Rattle.rr_model.specs.declared.deed.What.TheVariants.{Told, Took, Marked, Sent, Acked, Down, Up}

-- ---- where nodes stand

-- a node: its state where it is up; the facts that it has marked; and where it is down, the facts behind these that it hadn't marked
pub record Life : Type 0 where
  pub state : Option NodeState
  pub marked : List Fact
  pub unmarked : List Fact

-- a node that was never up
abbrev pub no_life : Life
no_life = record { state = None; marked = []; unmarked = [] }

-- the facts that a node which is up hasn't marked: those of its running group, then those that are staged
abbrev pub unmarked_of : NodeState → List Fact
unmarked_of s = group_of s ++ s.staged

-- a node after an event that it is up for
abbrev pub lived : StateEvent → Life → Life
lived e l = record l { state = option_map (λ s. after_event s e) l.state }

-- node p of n after what it does
abbrev pub after_what : ℕ → ℕ → What → Life → Life
after_what n p (Told input) l = lived (node.Told input) l
after_what n p Took l = lived Grouped l
after_what n p Marked l = record (lived node.Marked l) { marked = l.marked ++ option_map_or group_of l.state [] }
after_what n p (Sent m) l = lived Left l
after_what n p (Acked q reply) l = lived Answered l
after_what n p Down l = record { state = None; marked = l.marked; unmarked = option_map_or unmarked_of l.state l.unmarked }
after_what n p (Up promise next) l = record { state = Some (started n p promise next); marked = take next (l.marked ++ l.unmarked); unmarked = [] }

-- all nodes, and all messages ever sent
pub record Lives : Type 0 where
  pub life : ℕ → Life
  pub wire : List Message

-- before anything was done
abbrev pub nothing_done : Lives
nothing_done = record { life = λ p. no_life; wire = [] }

-- the messages that a deed sends
abbrev pub sent_of : What → List Message
sent_of (Sent m) = m ∷ []
sent_of _ = []

abbrev pub sent_by : Deed → List Message
sent_by d = sent_of d.what

-- after a deed
abbrev pub after_deed : ℕ → Deed → Lives → Lives
after_deed n d v = record { life = with_at v.life d.node (after_what n d.node d.what (v.life d.node)); wire = v.wire ++ sent_by d }

-- after deeds, one after another
abbrev pub after_deeds : ℕ → List Deed → Lives → Lives
after_deeds n [] v = v
after_deeds n (d ∷ ds) v = after_deeds n ds (after_deed n d v)

-- ---- histories

-- a message that is heard was sent, and is for this node
abbrev pub WasSent : List Message → ℕ → Input Message → Type 0
WasSent wire p (Hear m) = Contains wire m × (m.to ≡ p)
WasSent wire p _ = Unit {0}

-- a node is up, and that holds of its state
abbrev pub IsUpWith : Life → (NodeState → Type 0) → Type 0
IsUpWith l Holds = (s : NodeState) × (l.state ≡ Some s) × Holds s

-- what node p of n may do next: it is up, and that is what its state has next; or it goes down, or comes up
abbrev pub IsNextOf : ℕ → List Message → ℕ → Life → What → Type 0
IsNextOf n wire p l (Told input) = IsUpWith l (λ s. WasSent wire p input × (refusal_of input s ≡ None))
IsNextOf n wire p l Took = IsUpWith l (λ s. (s.running ≡ None) × (s.staged ≢ []))
IsNextOf n wire p l Marked = IsUpWith l (λ s. IsSome s.running)
IsNextOf n wire p l (Sent m) = IsUpWith l (λ s. next_leaving s ≡ Some m)
IsNextOf n wire p l (Acked q reply) = IsUpWith l (λ s. (next_acknowledged s ≡ Some q) × (reply_of (decided_prefix s) q ≡ Some reply))
IsNextOf n wire p l Down = IsUpWith l (λ s. Unit {0})
IsNextOf n wire p l (Up promise next) = (p < n) × (l.state ≡ None)

-- each deed is what its node may do next where it stands
abbrev pub IsHistoryFrom : ℕ → Lives → List Deed → Type 0
IsHistoryFrom n v [] = Unit {0}
IsHistoryFrom n v (d ∷ ds) = IsNextOf n v.wire d.node (v.life d.node) d.what × IsHistoryFrom n (after_deed n d v) ds

-- the deeds are a history of n nodes
abbrev pub IsHistory : ℕ → List Deed → Type 0
IsHistory n deeds = IsHistoryFrom n nothing_done deeds

-- ---- the premise on disks

-- a start finds the facts that its node had marked, and the first so many of those behind them: it finds their promise and number
abbrev pub FindsItsFacts : Life → List Entry → ℕ → Type 0
FindsItsFacts l promise next =
    (count : ℕ) × (count ≤ length l.unmarked)
    × (next ≡ length (l.marked ++ take count l.unmarked))
    × (promise ≡ promise_of (l.marked ++ take count l.unmarked))

abbrev pub OpensWellAt : Life → What → Type 0
OpensWellAt l (Up promise next) = FindsItsFacts l promise next
OpensWellAt l _ = Unit {0}

abbrev pub OpensWellFrom : ℕ → Lives → List Deed → Type 0
OpensWellFrom n v [] = Unit {0}
OpensWellFrom n v (d ∷ ds) = OpensWellAt (v.life d.node) d.what × OpensWellFrom n (after_deed n d v) ds

-- THE PREMISE: each start of the history finds its facts. It is what a disk that keeps its syncs gives
abbrev pub OpensWell : ℕ → List Deed → Type 0
OpensWell n deeds = OpensWellFrom n nothing_done deeds

-- ---- one list

-- a node does this
abbrev pub deed_of : ℕ → What → Deed
deed_of p what = record { node = p; what = what }

-- what the history of n nodes says agrees with one list of commands, the decided list of the messages in it
pub record AgreesWithOneList (n : ℕ) (deeds : List Deed) : Type 0 where
  pub list : List Command
  pub decided : IsDecidedList n (flat_map sent_by deeds) list
  -- each command of the list was submitted
  pub submitted : (c : Command) → Contains list c → (p : ℕ) × Contains deeds (deed_of p (Told (Submit c)))
  -- what a node has decided at a start is a beginning of the list
  pub restarts : (before after : List Deed) (p : ℕ) (promise : List Entry) (next : ℕ) → deeds ≡ before ++ deed_of p (Up promise next) ∷ after →
      (more : List Command) × (list ≡ decided_from 0 promise ++ more)
  -- and it gives each reply that the node acknowledged before
  pub nothing_acknowledged_is_lost : (before after : List Deed) (p : ℕ) (promise : List Entry) (next : ℕ) → deeds ≡ before ++ deed_of p (Up promise next) ∷ after →
      (q : RequestNo) (reply : Reply) → Contains before (deed_of p (Acked q reply)) → reply_of (decided_from 0 promise) q ≡ Some reply
  -- an acknowledged reply is the list's
  pub replies : (p : ℕ) (q : RequestNo) (reply : Reply) → Contains deeds (deed_of p (Acked q reply)) → reply_of list q ≡ Some reply
  -- no two nodes say that an instance has decided differently
  pub decisions : (p q i : ℕ) (m o : Message) (v w : Command) → Contains deeds (deed_of p (Sent m)) → Contains deeds (deed_of q (Sent o)) →
      m.body ≡ Decision i v → o.body ≡ Decision i w → v ≡ w
  -- a command acknowledged by a moment stands before each command that was first submitted later (Herlihy and Wing 1990):
  -- the list up to that one gives each reply acknowledged by then
  pub real_time : (before after : List Deed) → deeds ≡ before ++ after →
      (p : ℕ) (q : RequestNo) (reply : Reply) → Contains before (deed_of p (Acked q reply)) →
      (v : Command) → ((at : ℕ) → Contains before (deed_of at (Told (Submit v))) → ⊥) →
      (k : ℕ) → slice_get list k ≡ Some v → reply_of (take k list) q ≡ Some reply

-- ---- small histories

-- a node that comes up over an empty disk
abbrev pub first_start : List Deed
first_start = deed_of 0 (Up [] 0) ∷ []

-- its first start finds nothing
abbrev pub IsFirstStartEmpty : Type 0
IsFirstStartEmpty = (promise : List Entry) (next : ℕ) → OpensWell 1 (deed_of 0 (Up promise next) ∷ []) → (promise ≡ []) × (next ≡ 0)

-- it hears no message that nobody sent
abbrev pub HearsNothingUnsent : Type 0
HearsNothingUnsent = (m : Message) → IsHistory 1 (first_start ++ deed_of 0 (Told (Hear m)) ∷ []) → ⊥

-- a node that is down does nothing
abbrev pub DoesNothingDown : Type 0
DoesNothingDown = IsHistory 1 (deed_of 0 Took ∷ []) → ⊥
