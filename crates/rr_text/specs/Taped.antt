-- A tape: how many nodes there are, its events, and what may stand in it.
use Rattle.std.specs.Prelude.{◌≡◌, ℕ, ◌^◌, ◌<◌, ◌≤◌, List, length, IfSome}
use Rattle.std.specs.List.{AllByRecursion}
use Rattle.rr_types.specs.declared.command.RequestNo.{RequestNo}
use Rattle.rr_types.specs.declared.command.Reply.{Reply}
use Rattle.rr_types.specs.Commands.{reply_owner}
use Rattle.rr_types.specs.declared.message.Body.{Body}
use Rattle.rr_types.specs.declared.message.Body.TheVariants as bodies
use Rattle.rr_types.specs.declared.message.Message.{Message}
use Rattle.rr_types.specs.Rounds.{Estimated}
use Rattle.rr_types.specs.Limits.{instance_count, last_round, max_events, max_nodes}
use Rattle.rr_text.specs.Words.{IsCommand}
use Rattle.rr_text.specs.Scheduled.{IsInput}
use Rattle.rr_text.specs.declared.tape_event.TapeEvent.{TapeEvent}
use Rattle.rr_text.specs.declared.tape_event.Recorded.{Recorded}
use Rattle.rr_text.specs.declared.tape_event.Recorded.TheVariants.{Told, Take, Mark, Sent, Acked}

-- a tape: how many nodes there are, and the events
pub record Taped : Type 0 where
  pub nodes : ℕ
  pub events : List TapeEvent

-- the number of an instance
abbrev pub IsInstance : ℕ → Type 0
IsInstance i = i < instance_count

-- the number of a round
abbrev pub IsRound : ℕ → Type 0
IsRound r = (1 ≤ r) × (r ≤ last_round)

-- an estimate whose stamp lies before its round
pub record IsEstimate (e : Estimated) : Type 0 where
  pub round : IsRound e.round
  pub stamp : e.stamp < e.round
  pub command : IsCommand e.command

-- what a message among n nodes may say
abbrev pub IsBody : ℕ → Body → Type 0
IsBody n (bodies.Estimate i e) = IsInstance i × IsEstimate e
IsBody n (bodies.Proposal i r c) = IsInstance i × IsRound r × IsCommand c
IsBody n (bodies.Ack i r) = IsInstance i × IsRound r
IsBody n (bodies.Decision i c) = IsInstance i × IsCommand c
IsBody n (bodies.Request c) = IsCommand c
IsBody n (bodies.Nack i r) = IsInstance i × IsRound r
IsBody n bodies.Beat = Unit {0}
IsBody n (bodies.Suspects s) = s < 2 ^ n
IsBody n (bodies.Ask i) = IsInstance i

-- a message among n nodes
pub record IsMessage (n : ℕ) (m : Message) : Type 0 where
  pub from : m.from < n
  pub to : m.to < n
  pub body : IsBody n m.body

-- a request number
pub record IsRequest (q : RequestNo) : Type 0 where
  pub client : q.client < 2 ^ 32
  pub seq : q.seq < 2 ^ 64

-- a reply
abbrev pub IsReply : Reply → Type 0
IsReply r = IfSome (reply_owner r) (λ owner. owner < 2 ^ 32)

-- an event of node p of which a tape has this
abbrev pub of_node : ℕ → Recorded → TapeEvent
of_node p what = record { node = p; what = what }

-- what a tape may have of node p among n nodes; a message that was sent is from the node
abbrev pub IsRecorded : ℕ → ℕ → Recorded → Type 0
IsRecorded n p (Told input) = IsInput n input
IsRecorded n p Take = Unit {0}
IsRecorded n p Mark = Unit {0}
IsRecorded n p (Sent k m) = (k < 2 ^ 32) × (m.from ≡ p) × IsMessage n m
IsRecorded n p (Acked q r) = IsRequest q × IsReply r

-- an event of a tape, among n nodes
pub record IsTapeEvent (n : ℕ) (e : TapeEvent) : Type 0 where
  pub node : e.node < n
  pub what : IsRecorded n e.node e.what

-- a tape of 1 to 7 nodes and at most a million events among them
pub record IsTape (t : Taped) : Type 0 where
  pub some : 1 ≤ t.nodes
  pub few : t.nodes ≤ max_nodes
  pub short : length t.events ≤ max_events
  pub each : AllByRecursion (IsTapeEvent t.nodes) t.events
