-- What the events of a node with its disk are in the world: which steps, what they send, and what they tell.
use Rattle.std.specs.Prelude.{◌≡◌, ◌≢◌, ◌⊎◌, ℕ, ◌<◌, ◌≤◌, List, [], ◌∷◌, ◌++◌, map, All, IfSome, IfErr, Result, Ok, Err}
use Rattle.std.specs.List.{Contains}
use Rattle.rr_types.specs.declared.command.RequestNo.{RequestNo}
use Rattle.rr_types.specs.declared.command.Reply.{Reply}
use Rattle.rr_types.specs.declared.fact.Fact.{Fact}
use Rattle.rr_types.specs.declared.input.Input.TheVariants.{Submit, Hear}
use Rattle.rr_types.specs.declared.message.Message.{Message}
use Rattle.rr_types.specs.declared.refusal.Refusal.{Refusal}
use Rattle.rr_model.specs.World as world
use Rattle.rr_model.specs.World.{World, Told, Sent, Acknowledged, Reported, Step, Stage, Settle, GoDown, Send, IsRunFrom, empty_world}
use Rattle.rr_model.specs.Laws.{after_steps}
use Rattle.rr_model.specs.NodeReached.{NamesRounds}
use Rattle.rr_model.specs.NodeStep.{running_group}
use Rattle.rr_frame.specs.GroupFormat.{IsLawfulGroup}
use Rattle.rr_frame.specs.Snapshots.{IsSnapshot}
use Rattle.rr_frame.specs.SnapshotFormat.{IsLawfulSnapshot}
use Rattle.rr_journal.specs.Openings as opening
use Rattle.rr_journal.specs.Rewrites.{content_anew}
use Rattle.rr_types.specs.declared.event.NodeEvent.{NodeEvent}
use Rattle.rr_types.specs.declared.event.NodeEvent.TheVariants as at
use Rattle.rr_node.specs.declared.event.Outcome.{Outcome}
use Rattle.rr_node.specs.declared.event.Outcome.TheVariants.{Quiet, Left, Replied, Opened}
use Rattle.rr_node.specs.Seats.{Resting, Writing, Flushed, Switching, Doing, Stopped, Faulted, Opening, Serving, Seat, Gives, Fails, crashed, new_seat, snapshot_of}
use Rattle.rr_node.specs.Worlds.{InStep}

-- the messages that an answer puts on the wire
abbrev pub sent_by : Result Outcome Refusal → List Message
sent_by (Ok Quiet) = []
sent_by (Ok (Left m)) = m ∷ []
sent_by (Ok (Replied q reply)) = []
sent_by (Ok (Opened facts decided bindings)) = []
sent_by (Err e) = []

-- what an answer of node p lets others know
abbrev pub told_by : ℕ → Result Outcome Refusal → List Told
told_by p (Ok Quiet) = []
told_by p (Ok (Left m)) = Sent m ∷ []
told_by p (Ok (Replied q reply)) = Acknowledged p q reply ∷ []
told_by p (Ok (Opened facts decided bindings)) = Reported p decided bindings ∷ []
told_by p (Err e) = []

-- a heard message is on the wire, for this node, from one of the n nodes, and names rounds above 0
abbrev pub MayCome : ℕ → ℕ → World → NodeEvent Message → Type 0
MayCome n p w (at.Told (Hear m)) = Contains w.wire m × (m.to ≡ p) × (m.from < n) × NamesRounds m.body
MayCome n p w event = Unit {0}

-- nothing, or staged facts
abbrev pub AreStaged : ℕ → List Step → Type 0
AreStaged p steps = (facts : List Fact) × (steps ≡ map (Stage p) facts)

-- nothing, or this step and staged facts behind it
abbrev pub AreStagedBehind : ℕ → Step → List Step → Type 0
AreStagedBehind p step steps = (steps ≡ []) ⊎ ((facts : List Fact) × (steps ≡ step ∷ map (Stage p) facts))

-- nothing, or the node goes down
abbrev pub MayFall : ℕ → List Step → Type 0
MayFall p steps = (steps ≡ []) ⊎ (steps ≡ GoDown p ∷ [])

-- nothing, or the node goes down, or a group is settled, or the node restarts
abbrev pub IsDeviceCall : ℕ → List Step → Type 0
IsDeviceCall p steps = MayFall p steps ⊎ ((count : ℕ) × (steps ≡ Settle p count ∷ [])) ⊎ ((count : ℕ) × (steps ≡ world.Restart p count ∷ []))

-- the steps of the world that an event of node p may be
abbrev pub MayBe : ℕ → NodeEvent Message → List Step → Type 0
MayBe p (at.Told (Submit c)) steps = AreStagedBehind p (world.Submit p c) steps
MayBe p (at.Told (Hear m)) steps = AreStagedBehind p (world.Hear p m) steps
MayBe p (at.Told _) steps = AreStaged p steps
MayBe p at.Take steps = steps ≡ []
MayBe p at.Device steps = IsDeviceCall p steps
MayBe p at.Mark steps = steps ≡ []
MayBe p at.Send steps = (steps ≡ []) ⊎ ((m : Message) × (steps ≡ Send p m ∷ []))
MayBe p at.Acknowledge steps = (steps ≡ []) ⊎ ((q : RequestNo) × (reply : Reply) × (steps ≡ world.Acknowledge p q reply ∷ []))
MayBe p at.Snap steps = steps ≡ []
MayBe p at.Restart steps = steps ≡ []

-- an event of node p of n that answers so and leaves this seat is a run of such steps, behind which they are in step:
-- where it was refused the node at most goes down, it sends and tells what was answered, a message of its own that names
-- rounds above 0, and the other nodes stay in step
pub record GoesOn (n p : ℕ) (May : List Step → Type 0) (w : World) (answer : Result Outcome Refusal) (next : Seat) : Type 0 where
  pub steps : List Step
  pub may : May steps
  pub refused : IfErr answer (λ e. MayFall p steps)
  pub run : IsRunFrom n w steps
  pub in_step : InStep n p next (after_steps w steps)
  pub wire : (after_steps w steps).wire ≡ w.wire ++ sent_by answer
  pub trace : (after_steps w steps).trace ≡ w.trace ++ told_by p answer
  pub sent : (m : Message) → Contains (sent_by answer) m → (m.from ≡ p) × NamesRounds m.body
  pub beside : (q : ℕ) (other : Seat) → q ≢ p → InStep n q other w → InStep n q other (after_steps w steps)

-- the snapshot that an opening writes has a spelling at each node that it may be of
abbrev pub IsAnewSpelt : opening.Phase → Type 0
IsAnewSpelt opening.Settling = Unit {0}
IsAnewSpelt opening.ReadingFirst = Unit {0}
IsAnewSpelt (opening.ReadingSecond first) = Unit {0}
IsAnewSpelt (opening.Rewriting found calls) =
    (n p : ℕ) → n ≤ 7 → IsSnapshot (opening.snapshot_with n p (content_anew found))
    → IsLawfulSnapshot (opening.snapshot_with n p (content_anew found))

-- the group that a node is flushing has a spelling, or the snapshot to which it switches or that its opening writes
abbrev pub IsSpelt : Doing → Type 0
IsSpelt Stopped = Unit {0}
IsSpelt Faulted = Unit {0}
IsSpelt (Opening phase) = IsAnewSpelt phase
IsSpelt (Serving s journal Resting) = Unit {0}
IsSpelt (Serving s journal (Writing calls)) = IfSome (running_group s) IsLawfulGroup
IsSpelt (Serving s journal Flushed) = Unit {0}
IsSpelt (Serving s journal (Switching calls)) = IsLawfulSnapshot (snapshot_of s journal)

-- a node that was never started is in step with the empty world
abbrev pub StartsInStep : ℕ → ℕ → Type 0
StartsInStep n p = p < n → InStep n p (new_seat n p) empty_world

-- each event of a node in step is a run of steps that keeps it so
abbrev pub StepsInStep : ℕ → ℕ → Type 0
StepsInStep n p =
    (event : NodeEvent Message) (seat next : Seat) (w : World) (answer : Result Outcome Refusal) → InStep n p seat w
    → MayCome n p w event → Gives event seat answer next → IsSpelt next.doing
    → GoesOn n p (MayBe p event) w answer next

-- so is each failing device call, whose fill is of bytes
abbrev pub FailsInStep : ℕ → ℕ → Type 0
FailsInStep n p =
    (fill : List ℕ) (seat next : Seat) (w : World) (answer : Result Outcome Refusal) → All (λ b. b < 256) fill
    → InStep n p seat w → Fails fill seat answer next
    → GoesOn n p (MayFall p) w answer next

-- and each crash, whose fill is of bytes
abbrev pub CrashesInStep : ℕ → ℕ → Type 0
CrashesInStep n p =
    (cut_first cut_second : ℕ) (fill : List ℕ) (seat : Seat) (w : World) → All (λ b. b < 256) fill → InStep n p seat w
    → GoesOn n p (MayFall p) w (Ok Quiet) (crashed cut_first cut_second fill seat)
