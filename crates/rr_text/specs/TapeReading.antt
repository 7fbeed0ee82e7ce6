-- Reading words of a tape from left to right: what each reader of the code gives.
use Rattle.std.specs.Prelude.{ℕ, Bool, true, false, nat_lt, nat_le, ◌&&◌, if◌then◌else◌, List, Option, None, Some}
use Rattle.std.specs.Str.{bytes_eq}
use Rattle.rr_types.specs.declared.command.RequestNo.{RequestNo}
use Rattle.rr_types.specs.declared.command.Command.{Command}
use Rattle.rr_types.specs.declared.command.Reply.{Reply}
use Rattle.rr_types.specs.declared.command.ReplyKind.{ReplyKind}
use Rattle.rr_types.specs.Commands.{find_by, reply_word, reply_kinds, reply_with}
use Rattle.rr_types.specs.declared.message.Body.{Body}
use Rattle.rr_types.specs.declared.message.Body.TheVariants as bodies
use Rattle.rr_types.specs.declared.message.Message.{Message}
use Rattle.rr_types.specs.declared.message.MessageKind.{MessageKind}
use Rattle.rr_types.specs.declared.message.MessageKind.TheVariants.{Estimate, Proposal, Ack, Decision, Request, Nack, Beat, Suspects, Ask}
use Rattle.rr_types.specs.Messages.{message_word}
use Rattle.rr_types.specs.Rounds.{Estimated}
use Rattle.rr_types.specs.Limits.{instance_count, last_round}
use Rattle.rr_text.specs.declared.event.Event.{Event}
use Rattle.rr_text.specs.declared.event.Happening.{Happening}
use Rattle.rr_text.specs.declared.event.Happening.TheVariants.{At}
use Rattle.rr_types.specs.declared.event.NodeEvent.TheVariants as events
use Rattle.rr_text.specs.declared.kind.EventKind.{EventKind}
use Rattle.rr_text.specs.declared.kind.EventKind.TheVariants as keywords
use Rattle.rr_text.specs.Reading.{◌>>=◌, cut_at, number_at, small_at, node_at, set_at, op_at, message_kind_at, keyword_at, fields_at}
use Rattle.rr_text.specs.declared.sent_read.Heading.{Heading}
use Rattle.rr_text.specs.declared.tape_event.TapeEvent.{TapeEvent}
use Rattle.rr_text.specs.declared.tape_event.Recorded.{Recorded}
use Rattle.rr_text.specs.declared.tape_event.Recorded.TheVariants as tapes

-- the number of an instance
abbrev pub instance_at : List ℕ → Option ℕ
instance_at w = small_at w >>= λ i. if nat_lt i instance_count then Some i else None

-- the number of a round
abbrev pub round_at : List ℕ → Option ℕ
round_at w = small_at w >>= λ r. if nat_le 1 r && nat_le r last_round then Some r else None

-- a request number
abbrev pub request_at : List ℕ → Option RequestNo
request_at w = cut_at 46 w >>= λ q. small_at q.0 >>= λ client. number_at q.1 >>= λ seq. Some (record { client = client; seq = seq })

-- a first word that is read so, and behind it a text that is read so
abbrev pub both_at : {A B : Type 0} → (List ℕ → Option A) → (List ℕ → Option B) → List ℕ → Option (A × B)
both_at first second text = cut_at 32 text >>= λ w. first w.0 >>= λ x. second w.1 >>= λ y. Some (x, y)

-- a command
abbrev pub command_at : List ℕ → Option Command
command_at text = both_at request_at op_at text >>= λ c. Some (record { request = c.0; op = c.1 })

-- an estimate with this round, stamp and command
abbrev pub estimate_from : ℕ × (ℕ × Command) → Option Estimated
estimate_from e = if nat_lt e.1.0 e.0 then Some (record { round = e.0; stamp = e.1.0; command = e.1.1 }) else None

-- an estimate: its round, its stamp and its command
abbrev pub estimate_at : List ℕ → Option Estimated
estimate_at text = both_at round_at (both_at small_at command_at) text >>= estimate_from

-- an instance and an estimate
abbrev pub estimated_at : List ℕ → Option (ℕ × Estimated)
estimated_at text = both_at instance_at estimate_at text

-- an instance, a round and a command
abbrev pub proposed_at : List ℕ → Option (ℕ × ℕ × Command)
proposed_at text = both_at instance_at (both_at round_at command_at) text >>= λ p. Some (p.0, p.1.0, p.1.1)

-- an instance and a round
abbrev pub round_of_at : List ℕ → Option (ℕ × ℕ)
round_of_at text = both_at instance_at round_at text

-- an instance and a command
abbrev pub decided_at : List ℕ → Option (ℕ × Command)
decided_at text = both_at instance_at command_at text

-- what a message of this kind says, with this behind its word, among n nodes
abbrev pub body_fields_at : ℕ → MessageKind → List ℕ → Option Body
body_fields_at n Estimate text = estimated_at text >>= λ x. Some (bodies.Estimate x.0 x.1)
body_fields_at n Proposal text = proposed_at text >>= λ x. Some (bodies.Proposal x.0 x.1 x.2)
body_fields_at n Ack text = round_of_at text >>= λ x. Some (bodies.Ack x.0 x.1)
body_fields_at n Decision text = decided_at text >>= λ x. Some (bodies.Decision x.0 x.1)
body_fields_at n Request text = command_at text >>= λ c. Some (bodies.Request c)
body_fields_at n Nack text = round_of_at text >>= λ x. Some (bodies.Nack x.0 x.1)
body_fields_at n Beat text = None
body_fields_at n Suspects text = set_at n text >>= λ s. Some (bodies.Suspects s)
body_fields_at n Ask text = instance_at text >>= λ i. Some (bodies.Ask i)

-- what a message says, from the whole text or from its parts at the first space
abbrev pub body_from : ℕ → List ℕ → Option (List ℕ × List ℕ) → Option Body
body_from n text None = if bytes_eq text (message_word Beat) then Some bodies.Beat else None
body_from n text (Some w) = message_kind_at w.0 >>= λ k. body_fields_at n k w.1

-- what a message among n nodes says
abbrev pub body_at : ℕ → List ℕ → Option Body
body_at n text = body_from n text (cut_at 32 text)

-- a message among n nodes
abbrev pub message_at : ℕ → List ℕ → Option Message
message_at n text = both_at (node_at n) (both_at (node_at n) (body_at n)) text >>= λ m. Some (record { from = m.0; to = m.1.0; body = m.1.1 })

-- the kind of replies that a word stands for
abbrev pub reply_kind_at : List ℕ → Option ReplyKind
reply_kind_at w = find_by reply_word w reply_kinds

-- a reply, from the whole text or from its parts at the first space
abbrev pub reply_from : List ℕ → Option (List ℕ × List ℕ) → Option Reply
reply_from text None = reply_kind_at text >>= λ k. reply_with k None
reply_from text (Some w) = reply_kind_at w.0 >>= λ k. small_at w.1 >>= λ o. reply_with k (Some o)

-- a reply
abbrev pub reply_at : List ℕ → Option Reply
reply_at text = reply_from text (cut_at 32 text)

-- what a tape has of what happens by an event of a schedule
abbrev pub recorded_of : Happening → Option Recorded
recorded_of (At (events.Told input)) = Some (tapes.Told input)
recorded_of (At events.Take) = Some tapes.Take
recorded_of (At events.Mark) = Some tapes.Mark
recorded_of _ = None

-- the event of a tape that an event of a schedule is
abbrev pub as_recorded : Event → Option TapeEvent
as_recorded e = recorded_of e.what >>= λ what. Some (record { node = e.node; what = what })

-- a message that was sent: its number and the message, which names the node
abbrev pub sent_at : ℕ → List ℕ → Option TapeEvent
sent_at n text = both_at small_at (message_at n) text >>= λ x. Some (record { node = x.1.from; what = tapes.Sent x.0 x.1 })

-- a message of this heading that was sent and says this, where it says something
abbrev pub sent_as : Heading → Option Body → Option TapeEvent
sent_as h said = said >>= λ b. Some (record { node = h.from; what = tapes.Sent h.number (record { from = h.from; to = h.to; body = b }) })

-- whether a message of this kind has a command
abbrev pub has_command : MessageKind → Bool
has_command Estimate = true
has_command Proposal = true
has_command Decision = true
has_command Request = true
has_command _ = false

-- a request that was acknowledged: the node, the request number and the reply
abbrev pub acked_at : ℕ → List ℕ → Option TapeEvent
acked_at n text = both_at (node_at n) (both_at request_at reply_at) text >>= λ x. Some (record { node = x.0; what = tapes.Acked x.1.0 x.1.1 })

-- the event of a tape that an event of a schedule of this keyword is, among n nodes
abbrev pub told_at : ℕ → EventKind → List ℕ → Option TapeEvent
told_at n k text = fields_at n k text >>= as_recorded

-- the event of a tape of this keyword among n nodes
abbrev pub tape_fields_at : ℕ → EventKind → List ℕ → Option TapeEvent
tape_fields_at n keywords.Send text = sent_at n text
tape_fields_at n keywords.Ack text = acked_at n text
tape_fields_at n k text = fields_at n k text >>= as_recorded

-- an event of a tape among n nodes
abbrev pub tape_event_at : ℕ → List ℕ → Option TapeEvent
tape_event_at n text = cut_at 32 text >>= λ w. keyword_at w.0 >>= λ k. tape_fields_at n k w.1
