-- What it means that the world has a node in its state, up or down, and that its events, crashes and restarts are steps.
use Rattle.std.specs.Prelude.{◌≡◌, ℕ, ◌<◌, ◌≤◌, Bool, true, false, if◌then◌else◌, List, [], ◌∷◌, ◌++◌, length, take, Some, is_some}
use Rattle.std.specs.Option.{option_map_or}
use Rattle.std.specs.List.{Contains}
use Rattle.rr_types.specs.declared.command.Command.{Command}
use Rattle.rr_types.specs.declared.fact.Fact.{Fact}
use Rattle.rr_types.specs.declared.message.Message.{Message}
use Rattle.rr_types.specs.Promises.{all_fit}
use Rattle.rr_types.specs.Registry.{registry_of}
use Rattle.rr_model.specs.Lawful.{Heard}
use Rattle.rr_model.specs.World as world
use Rattle.rr_model.specs.World.{World, Step, Stage, Settle, Send, Acknowledge, GoDown, Restart, Sent, Acknowledged, Reported, nothing_heard, IsRunFrom}
use Rattle.rr_model.specs.Laws.{after_steps}
use Rattle.rr_model.specs.NodeState.{NodeState, decided_prefix}
use Rattle.rr_model.specs.NodeStep.{group_put_back, marked_running, next_leaving, next_acknowledged}
use Rattle.rr_model.specs.NodeLaws.{StateEvent, Told, Grouped, PutBack, Marked, Left, Answered, after_event, heard_after, facts_of_event, marked_facts}
use Rattle.rr_model.specs.NodeWorld.{steps_of_event, told_reply, MayCome}
use Rattle.rr_model.specs.NodeReached.{opened_over}

-- the facts of the running group
abbrev pub group_of : NodeState → List Fact
group_of s = option_map_or (λ group. group) s.running []

-- the world has node p of n up in this state, with these facts, after what it heard: its marked facts are kept, and
-- those of its running group too once that is settled; the others are staged, and what was submitted here was submitted
pub record IsInWorld (settled : Bool) (n p : ℕ) (facts : List Fact) (h : Heard) (s : NodeState) (w : World) : Type 0 where
  pub exists : p < n
  pub up : w.is_up p ≡ true
  -- only a group that runs is settled
  pub runs : settled ≡ true → is_some s.running ≡ true
  pub kept : w.kept p ≡ marked_facts facts s ++ (if settled then group_of s else [])
  pub staged : w.staged p ≡ (if settled then [] else group_of s) ++ s.staged
  pub heard : w.heard p ≡ h
  pub submitted : (c : Command) → Contains h.commands c → Contains w.submitted c

-- the world has node p down, with these facts kept and those staged
pub record IsDownIn (p : ℕ) (kept staged : List Fact) (w : World) : Type 0 where
  pub down : w.is_up p ≡ false
  pub keeps : w.kept p ≡ kept
  pub stages : w.staged p ≡ staged
  pub heard : w.heard p ≡ nothing_heard

-- an event that neither marks the running group nor puts it back
abbrev pub LeavesTheGroup : StateEvent → Type 0
LeavesTheGroup (Told input) = Unit {0}
LeavesTheGroup Grouped = Unit {0}
LeavesTheGroup PutBack = ⊥
LeavesTheGroup Marked = ⊥
LeavesTheGroup Left = Unit {0}
LeavesTheGroup Answered = Unit {0}

-- an event is a run of the world's steps, behind which the world has the node as the event left it
abbrev pub IsRunInWorld : Bool → ℕ → ℕ → List Fact → Heard → NodeState → StateEvent → Type 0
IsRunInWorld settled n p facts h s e =
    (w : World) → IsInWorld settled n p facts h s w → MayCome w p s e
    → IsRunFrom n w (steps_of_event p s e)
    × IsInWorld settled n p (facts ++ facts_of_event s e) (heard_after p h e) (after_event s e)
    (after_steps w (steps_of_event p s e))

-- the step that settles the running group, from which on its facts are kept
abbrev pub SettlesItsGroup : ℕ → ℕ → List Fact → Heard → NodeState → Type 0
SettlesItsGroup n p facts h s =
    (w : World) (group : List Fact) → s.running ≡ Some group → IsInWorld false n p facts h s w
    → IsRunFrom n w (Settle p (length group) ∷ []) × IsInWorld true n p facts h s (after_steps w (Settle p (length group) ∷ []))

-- marking a settled group is no step
abbrev pub MarksWhatIsSettled : ℕ → ℕ → List Fact → Heard → NodeState → Type 0
MarksWhatIsSettled n p facts h s = (w : World) → IsInWorld true n p facts h s w → IsInWorld false n p facts h (marked_running s) w

-- nor is putting back a group that isn't settled
abbrev pub PutsBackItsGroup : ℕ → ℕ → List Fact → Heard → NodeState → Type 0
PutsBackItsGroup n p facts h s = (w : World) → IsInWorld false n p facts h s w → IsInWorld false n p facts h (group_put_back s) w

-- the node may go down at any time: what is kept and staged stays
abbrev pub GoesDown : Bool → ℕ → ℕ → List Fact → Heard → NodeState → Type 0
GoesDown settled n p facts h s =
    (w : World) → IsInWorld settled n p facts h s w
    → IsRunFrom n w (GoDown p ∷ []) × IsDownIn p (w.kept p) (w.staged p) (after_steps w (GoDown p ∷ []))

-- what a restart of node p reports
abbrev pub report_of : ℕ → NodeState → world.Told
report_of p s = Reported p (length (decided_prefix s)) (registry_of (decided_prefix s))

-- a node that is down may restart over the kept facts and the first so many of the staged ones where these fit: the
-- world has it as its opening leaves it, and tells of its decided prefix
abbrev pub Restarts : ℕ → ℕ → List Fact → List Fact → ℕ → Type 0
Restarts n p kept staged count =
    (w : World) → p < n → IsDownIn p kept staged w → count ≤ length staged
    → all_fit n p [] (kept ++ take count staged) ≡ true
    → IsRunFrom n w (Restart p count ∷ [])
    × IsInWorld false n p (kept ++ take count staged) nothing_heard (opened_over n p (kept ++ take count staged))
    (after_steps w (Restart p count ∷ []))
    × ((after_steps w (Restart p count ∷ [])).trace
    ≡ w.trace ++ report_of p (opened_over n p (kept ++ take count staged)) ∷ [])

-- the node at which a step happens
abbrev pub node_of : Step → ℕ
node_of (world.Submit p c) = p
node_of (world.Hear p m) = p
node_of (Stage p f) = p
node_of (Settle p count) = p
node_of (Send p m) = p
node_of (Acknowledge p q reply) = p
node_of (GoDown p) = p
node_of (Restart p count) = p

-- all of these steps happen at node p
abbrev pub AreStepsAt : ℕ → List Step → Type 0
AreStepsAt p [] = Unit {0}
AreStepsAt p (s ∷ ss) = (node_of s ≡ p) × AreStepsAt p ss

-- from one world to another node q stays as it is, and nothing that was submitted or sent is lost
pub record LeavesAlone (q : ℕ) (w v : World) : Type 0 where
  pub up : v.is_up q ≡ w.is_up q
  pub kept : v.kept q ≡ w.kept q
  pub staged : v.staged q ≡ w.staged q
  pub heard : v.heard q ≡ w.heard q
  pub submitted : (c : Command) → Contains w.submitted c → Contains v.submitted c
  pub wire : (m : Message) → Contains w.wire m → Contains v.wire m

-- the messages that an event puts on the wire
abbrev pub sent_by_event : NodeState → StateEvent → List Message
sent_by_event s (Told input) = []
sent_by_event s Grouped = []
sent_by_event s PutBack = []
sent_by_event s Marked = []
sent_by_event s Left = option_map_or (λ m. m ∷ []) (next_leaving s) []
sent_by_event s Answered = []

-- what an event lets others know
abbrev pub told_by_event : ℕ → NodeState → StateEvent → List world.Told
told_by_event p s (Told input) = []
told_by_event p s Grouped = []
told_by_event p s PutBack = []
told_by_event p s Marked = []
told_by_event p s Left = option_map_or (λ m. Sent m ∷ []) (next_leaving s) []
told_by_event p s Answered =
    option_map_or (λ q. option_map_or (λ reply. Acknowledged p q reply ∷ []) (told_reply s q) []) (next_acknowledged s) []

-- the steps of an event add just that to the wire and the trace
abbrev pub SaysJustThat : ℕ → NodeState → StateEvent → Type 0
SaysJustThat p s e =
    (w : World)
    → ((after_steps w (steps_of_event p s e)).wire ≡ w.wire ++ sent_by_event s e)
    × ((after_steps w (steps_of_event p s e)).trace ≡ w.trace ++ told_by_event p s e)
