-- What came of an event, by the cluster before it and the one behind it.
use Rattle.std.specs.Prelude.{ℕ, Bool, true, false, not, ◌||◌, ◌==◌, if◌then◌else◌, List, [], ◌∷◌, length, Option, None, Some, option_map, slice_get}
use Rattle.rr_types.specs.declared.message.Message.{Message}
use Rattle.rr_text.specs.declared.event.Event.{Event}
use Rattle.rr_text.specs.declared.event.Happening.{Happening}
use Rattle.rr_text.specs.declared.event.Happening.TheVariants.{At, Fail}
use Rattle.rr_types.specs.declared.input.Input.TheVariants.{Hear}
use Rattle.rr_types.specs.declared.event.NodeEvent.TheVariants as node
use Rattle.rr_text.specs.declared.report.ReportLine.{ReportLine}
use Rattle.rr_node.specs.declared.event.Stance.{Stance}
use Rattle.rr_node.specs.declared.event.Stance.TheVariants as waits
use Rattle.rr_node.specs.Seats.{Seat}
use Rattle.rr_node.specs.Stances.{stance_of}
use Rattle.rr_sim.specs.Clusters.{Cluster}
use Rattle.rr_account.specs.declared.outcome.Idle.{Idle}
use Rattle.rr_account.specs.declared.outcome.Idle.TheVariants.{NoMessage, OtherAddressee, NothingStaged, NoCallDue, NothingSynced, NothingToSend, NothingToAcknowledge}
use Rattle.rr_account.specs.declared.outcome.Outcome.{Outcome}
use Rattle.rr_account.specs.declared.outcome.Outcome.TheVariants as came

-- what the node of an event waits for
abbrev pub stance_at : Event → Cluster → Option Stance
stance_at e c = option_map (λ (seat : Seat). stance_of seat.doing) (slice_get c.seats e.node)

-- whether a node is up and has no job
abbrev pub rests : Option Stance → Bool
rests (Some waits.Resting) = true
rests _ = false

-- whether a node has a synced group that waits for its mark
abbrev pub has_synced : Option Stance → Bool
has_synced (Some waits.Flushed) = true
has_synced _ = false

-- an event came to nothing for this reason, or it was done
abbrev pub idle_if : Bool → Idle → Outcome
idle_if b why = if b then came.Idle why else came.Quiet

-- what came of hearing at node p message k of those that were sent
abbrev pub came_of_hearing : ℕ → ℕ → List Message → Option Message → Outcome
came_of_hearing p k wire None = came.Idle (NoMessage k (length wire))
came_of_hearing p k wire (Some m) = idle_if (not (m.to == p)) (OtherAddressee k m.to)

-- what came of what happened at node p, of which the report has no line, by what the node waited for before it and waits for
-- behind it, and by the messages that were sent. A take came to nothing if the node rests behind it, for a take that finds facts
-- begins a flush
abbrev pub untold_at : ℕ → Happening → Option Stance → Option Stance → List Message → Outcome
untold_at p (At (node.Told (Hear k))) before behind wire = came_of_hearing p k wire (slice_get wire k)
untold_at p (At node.Take) before behind wire = idle_if (rests behind) NothingStaged
untold_at p (At node.Device) before behind wire = idle_if (rests before || has_synced before) NoCallDue
untold_at p (Fail fill) before behind wire = came.Idle NoCallDue
untold_at p (At node.Mark) before behind wire = idle_if (not (has_synced before)) NothingSynced
untold_at p (At node.Send) before behind wire = came.Idle NothingToSend
untold_at p (At node.Acknowledge) before behind wire = came.Idle NothingToAcknowledge
untold_at p _ before behind wire = came.Quiet

-- the same of an event at its node
abbrev pub untold : Event → Option Stance → Option Stance → List Message → Outcome
untold e before behind wire = untold_at e.node e.what before behind wire

-- what came of an event of which the report has these lines, and which led from one cluster to another
abbrev pub outcome_of : Event → List ReportLine → Cluster → Cluster → Outcome
outcome_of e [] old new = untold e (stance_at e old) (stance_at e new) new.wire
outcome_of e (l ∷ ls) old new = came.Told
