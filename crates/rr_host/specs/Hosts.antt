-- What a node of a host does by the calls of that host.
use Rattle.std.specs.Prelude.{◌≡◌, ◌≢◌, ◌⊎◌, ℕ, Bool, true, false, List, Option, None, Some, Result, Ok, Err, IfOk, MatchOption}
use Rattle.rr_types.specs.declared.command.RequestNo.{RequestNo}
use Rattle.rr_types.specs.declared.command.Reply.{Reply}
use Rattle.rr_types.specs.declared.input.Input.{Input}
use Rattle.rr_types.specs.declared.message.Message.{Message}
use Rattle.rr_types.specs.declared.refusal.Refusal.{Refusal}
use Rattle.rr_types.specs.declared.refusal.Refusal.TheVariants as because
use Rattle.rr_types.specs.Registry.{reply_of}
use Rattle.rr_model.specs.NodeState.{NodeState, decided_prefix}
use Rattle.rr_model.specs.NodeStep.{node_step, next_acknowledged, acknowledged}
use Rattle.rr_frame.specs.Refused.{answer_of}
use Rattle.rr_frame.specs.MessageFormat.{message_in}
use Rattle.rr_host.specs.Jobs.{StepsOn, IsOfSwitch}
use Rattle.rr_host.specs.Ups.{Refuses, heard, Ticks, StopsTick, Leaves, Marks, Flushes}
use Rattle.rr_host.specs.Doings.{IsOf}
use Rattle.rr_host.specs.declared.flush.Flush.TheVariants.{Resting}
use Rattle.rr_host.specs.declared.up.Up.{Up}
use Rattle.rr_host.specs.declared.up.Leaving.{Leaving}
use Rattle.rr_host.specs.declared.doing.Doing.{Doing}
use Rattle.rr_host.specs.declared.doing.Doing.TheVariants as does

-- whether the node is up
abbrev pub is_up : Doing → Bool
is_up does.Down = false
is_up (does.Opening o) = false
is_up (does.Up u) = true

-- the state of a node that is up
abbrev pub core_in : Doing → Option NodeState
core_in does.Down = None
core_in (does.Opening o) = None
core_in (does.Up u) = Some u.core

-- a node that is up comes by a call from one state to another
abbrev pub OnUp : (Up → Up → Type 0) → Doing → Doing → Type 0
OnUp Does does.Down new = ⊥
OnUp Does (does.Opening o) new = ⊥
OnUp Does (does.Up u) new = (v : Up) × (new ≡ does.Up v) × Does u v

-- the same, or the call is refused with Down where it isn't up
abbrev pub OrDown : (Up → Refusal → Up → Type 0) → Doing → Refusal → Doing → Type 0
OrDown Stops does.Down e new = (e ≡ because.Down) × (new ≡ does.Down)
OrDown Stops (does.Opening o) e new = (e ≡ because.Down) × (new ≡ does.Opening o)
OrDown Stops (does.Up u) e new = (v : Up) × (new ≡ does.Up v) × Stops u e v

-- it was told this
abbrev pub Tells : Input Message → Doing → Doing → Type 0
Tells input old new = OnUp (λ u v. v ≡ record u { core = node_step input u.core }) old new

-- why it wasn't
abbrev pub IsWhy : Input Message → Doing → Refusal → Type 0
IsWhy input does.Down e = e ≡ because.Down
IsWhy input (does.Opening o) e = e ≡ because.Down
IsWhy input (does.Up u) e = Refuses input u.core e

-- it heard a message, and what its chase has it hear
abbrev pub Hears : Message → Doing → Doing → Type 0
Hears m old new = OnUp (λ u v. v ≡ heard m u) old new

-- it heard the message that these bytes spell
abbrev pub HearsBytes : ℕ → List ℕ → Doing → Doing → Type 0
HearsBytes n bytes old new = (m : Message) × (answer_of (message_in n bytes) ≡ Ok m) × Hears m old new

-- it ticked
abbrev pub TicksOn : Doing → Doing → Type 0
TicksOn old new = OnUp Ticks old new

abbrev pub StopsTicking : Doing → Doing → Refusal → Type 0
StopsTicking old new e = OrDown (λ u e v. StopsTick u v e) old e new

-- it marked the group that is synced
abbrev pub MarksOn : Doing → Doing → Type 0
MarksOn old new = OnUp Marks old new

-- its oldest staged facts go to the disk
abbrev pub FlushesOn : Doing → Doing → Type 0
FlushesOn old new = OnUp Flushes old new

-- it begins a switch to a snapshot, and its state stays
abbrev pub SnapsOn : Doing → Doing → Type 0
SnapsOn old new = OnUp (λ u v. (u.flush ≡ Resting) × IsOfSwitch v.flush × (v.core ≡ u.core)) old new

-- the write that was due is made and synced: an opening or a job goes on, and the state stays
abbrev pub GoesOn : Doing → Doing → Type 0
GoesOn does.Down new = ⊥
GoesOn (does.Opening o) new = IsOf o.nodes o.node new
GoesOn (does.Up u) new = (v : Up) × (new ≡ does.Up v) × StepsOn u.journal u.flush v.flush v.journal × (v ≡ record u { flush = v.flush; journal = v.journal })

-- the oldest message that may leave does
abbrev pub LeavesOn : Doing → Result Leaving Refusal → Doing → Type 0
LeavesOn does.Down result new = (result ≡ Err because.Down) × (new ≡ does.Down)
LeavesOn (does.Opening o) result new = (result ≡ Err because.Down) × (new ≡ does.Opening o)
LeavesOn (does.Up u) result new = (v : Up) × (new ≡ does.Up v) × Leaves u result v

-- the oldest request that waits and is decided gets its reply
abbrev pub Acknowledges : Up → Option (RequestNo × Reply) → Up → Type 0
Acknowledges u answer v =
    MatchOption answer ((next_acknowledged u.core ≡ None) × (v ≡ u))
    (λ a. (next_acknowledged u.core ≡ Some a.0) × (reply_of (decided_prefix u.core) a.0 ≡ Some a.1) × (v ≡ record u { core = acknowledged u.core }))

abbrev pub AcknowledgesOn : Doing → Option (RequestNo × Reply) → Doing → Type 0
AcknowledgesOn does.Down answer new = (answer ≡ None) × (new ≡ does.Down)
AcknowledgesOn (does.Opening o) answer new = (answer ≡ None) × (new ≡ does.Opening o)
AcknowledgesOn (does.Up u) answer new = (v : Up) × (new ≡ does.Up v) × Acknowledges u answer v
