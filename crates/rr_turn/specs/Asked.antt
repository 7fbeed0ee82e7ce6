-- The calls that the threads of a node make, and what they were answered.
use Rattle.std.specs.Prelude.{ℕ, List, [], ◌∷◌, Bool, Option, Result}
use Rattle.rr_types.specs.Groups.{Grouped}
use Rattle.rr_types.specs.declared.command.Command.{Command}
use Rattle.rr_types.specs.declared.command.RequestNo.{RequestNo}
use Rattle.rr_types.specs.declared.command.Reply.{Reply}
use Rattle.rr_types.specs.declared.input.Input.{Input}
use Rattle.rr_types.specs.declared.message.Message.{Message}
use Rattle.rr_types.specs.declared.refusal.Refusal.{Refusal}
use Rattle.rr_model.specs.NodeState.{NodeState}
use Rattle.rr_journal.specs.Flushes.{Kept}
use Rattle.rr_turn.specs.Recorded.{Sent}
use Rattle.rr_turn.specs.declared.flusher.Unflushed.{Unflushed}

-- a call, with what it was given or answered. One on the node says which state that had before
pub data Call : Type 0 where
  -- on the node: it is told an input that is no message; it hears a message; it marks a group; it gives its staged facts as a group; its
  -- oldest message that may leave does; its oldest request that is decided stops waiting
  tells : (node : NodeState) (input : Input Message) (answer : Result (Unit {0}) Refusal) → Call
  hears : (node : NodeState) (sent : Sent) → Call
  marks : (node : NodeState) (synced : Kept) → Call
  groups : (node : NodeState) (answer : Result (Option Grouped) Refusal) → Call
  leaves : (node : NodeState) (sent : Option Sent) → Call
  acknowledges : (node : NodeState) (told : Option (RequestNo × Reply)) → Call
  -- of its loop, to inboxes and bells, and to the flusher and the publisher
  puts : (to : ℕ) (sent : Sent) → Call
  puts_late : Call
  rings : (node : ℕ) → Call
  sees : (is_idle : Bool) → Call
  takes : (sent : Option Sent) → Call
  comes : (back : Option (Result Kept Unflushed)) → Call
  hands : (group : Grouped) → Call
  wakes_flusher : Call
  wakes_publisher : Call
  -- of its loop, to clients
  notices : (is_wanted : Bool) → Call
  counts : (clients : ℕ) → Call
  wants : (place : ℕ) (command : Option Command) → Call
  refuses : (place : ℕ) (refusal : Refusal) → Call
  passes : (count : ℕ) → Call
  -- of its loop, to the clock, and its own rest, both in nanoseconds
  reads_clock : (now : ℕ) → Call
  rests : (most : ℕ) → Call
  goes_on : Call
  -- of its flusher or publisher, to its rest and the run
  rests_aside : Call
  fails : (refusal : Refusal) → Call
  -- of its flusher
  receives : (group : Option Grouped) → Call
  hands_back : (back : Result Kept Unflushed) → Call
  wakes_loop : (node : ℕ) → Call
  -- of its publisher, where so many commands are published
  tells_clients : (published : List Command) (request : RequestNo) (reply : Reply) → Call
  -- of a client, at its counter
  wants_reply : (command : Command) → Call
  notes_wanted : Call
  sees_told : (is_told : Bool) → Call
  sees_end : (is_ending : Bool) → Call
  rests_there : Call
  collects : (receipt : Option RequestNo) → Call
  -- of the thread of a node that is down
  sees_over : (is_over : Bool) → Call
  sees_closed : (is_closed : Bool) → Call
  keeps_all : Call
  sees_switch : (moves : Option ℕ) → Call
  rests_down : Call

-- these calls, in this order and no others, bring the ends of a thread from one state to another
pub data Ran {L : Type 0} (gives : L → Call → L → Type 0) : List Call → L → L → Type 0 where
  still : (links : L) → Ran gives [] links links
  more : (call : Call) (calls : List Call) (old mid new : L) → gives old call mid → Ran gives calls mid new → Ran gives (call ∷ calls) old new
