-- The kinds of messages and their words.
use Rattle.std.specs.Prelude.{ℕ, List, codes}
use Rattle.rr_types.specs.declared.message.Body.{Body}
use Rattle.rr_types.specs.declared.message.Body.TheVariants as says
use Rattle.rr_types.specs.declared.message.MessageKind.{MessageKind}
use Rattle.rr_types.specs.declared.message.MessageKind.TheVariants.{Estimate, Proposal, Ack, Decision, Request, Nack, Beat, Suspects, Ask}

-- the word of a kind of messages
abbrev pub message_word : MessageKind → List ℕ
message_word Estimate = codes "estimate"
message_word Proposal = codes "proposal"
message_word Ack = codes "ack"
message_word Decision = codes "decision"
message_word Request = codes "request"
message_word Nack = codes "nack"
message_word Beat = codes "beat"
message_word Suspects = codes "suspects"
message_word Ask = codes "ask"

-- the kind of what a message says
abbrev pub message_kind : Body → MessageKind
message_kind (says.Estimate i e) = Estimate
message_kind (says.Proposal i r c) = Proposal
message_kind (says.Ack i r) = Ack
message_kind (says.Decision i c) = Decision
message_kind (says.Request c) = Request
message_kind (says.Nack i r) = Nack
message_kind says.Beat = Beat
message_kind (says.Suspects set) = Suspects
message_kind (says.Ask i) = Ask
