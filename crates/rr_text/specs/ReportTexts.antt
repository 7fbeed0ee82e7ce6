-- The text of a report.
use Rattle.std.specs.Prelude.{ℕ, ◌+◌, List, [], ◌∷◌, ◌++◌, length, map, Option, None, Some, codes, decimal}
use Rattle.std.specs.List.{flat_map}
use Rattle.rr_types.specs.declared.binding.Binding.{Binding}
use Rattle.rr_types.specs.declared.command.RequestNo.{RequestNo}
use Rattle.rr_types.specs.declared.command.Command.{Command}
use Rattle.rr_types.specs.declared.command.Reply.{Reply}
use Rattle.rr_types.specs.declared.message.Body.{Body}
use Rattle.rr_types.specs.declared.message.Body.TheVariants as bodies
use Rattle.rr_types.specs.declared.message.Message.{Message}
use Rattle.rr_types.specs.declared.message.MessageKind.TheVariants.{Estimate, Proposal, Ack, Decision, Request, Nack, Beat, Suspects, Ask}
use Rattle.rr_types.specs.Commands.{reply_word, reply_kind, reply_owner}
use Rattle.rr_types.specs.Messages.{message_word}
use Rattle.rr_types.specs.Refusal.{number_of, name_of}
use Rattle.rr_text.specs.declared.report.ReportLine.{ReportLine}
use Rattle.rr_text.specs.declared.report.ReportLine.TheVariants as lines
use Rattle.rr_text.specs.Words.{spaced, op_words, set_text}
use Rattle.rr_text.specs.Reported.{Reported}

-- a request number: the client, a dot and the client's own number
abbrev pub request_text : RequestNo → List ℕ
request_text q = decimal q.client ++ 46 ∷ decimal q.seq

-- a command: its request number and its operation
abbrev pub command_words : Command → List (List ℕ)
command_words c = request_text c.request ∷ op_words c.op

-- what a message says: its kind, instance, round and stamp, and the command
abbrev pub body_words : Body → List (List ℕ)
body_words (bodies.Estimate i e) = message_word Estimate ∷ decimal i ∷ decimal e.round ∷ decimal e.stamp ∷ command_words e.command
body_words (bodies.Proposal i r c) = message_word Proposal ∷ decimal i ∷ decimal r ∷ command_words c
body_words (bodies.Ack i r) = message_word Ack ∷ decimal i ∷ decimal r ∷ []
body_words (bodies.Decision i c) = message_word Decision ∷ decimal i ∷ command_words c
body_words (bodies.Request c) = message_word Request ∷ command_words c
body_words (bodies.Nack i r) = message_word Nack ∷ decimal i ∷ decimal r ∷ []
body_words bodies.Beat = message_word Beat ∷ []
body_words (bodies.Suspects s) = message_word Suspects ∷ set_text s ∷ []
body_words (bodies.Ask i) = message_word Ask ∷ decimal i ∷ []

-- a message: its sender, the node it is for, and what it says
abbrev pub message_words : Message → List (List ℕ)
message_words m = decimal m.from ∷ decimal m.to ∷ body_words m.body

-- the owner that a reply names
abbrev pub owner_words : Option ℕ → List (List ℕ)
owner_words None = []
owner_words (Some owner) = decimal owner ∷ []

-- a reply, with the owner of a name that is taken
abbrev pub reply_words : Reply → List (List ℕ)
reply_words r = reply_word (reply_kind r) ∷ owner_words (reply_owner r)

-- a bound name, its owner and its value
abbrev pub binding_text : Binding → List ℕ
binding_text b = b.name ++ 61 ∷ decimal b.owner ++ 58 ∷ b.value

-- a line of a report as words
abbrev pub report_words : ReportLine → List (List ℕ)
report_words (lines.Send k m) = codes "send" ∷ decimal k ∷ message_words m
report_words (lines.Ack p q r) = codes "ack" ∷ decimal p ∷ request_text q ∷ reply_words r
report_words (lines.Restart p facts decided bindings) = codes "restart" ∷ decimal p ∷ decimal facts ∷ decimal decided ∷ map binding_text bindings
report_words (lines.Refuse line r) = codes "refuse" ∷ decimal line ∷ decimal (number_of r) ∷ name_of r ∷ []

-- words as a line
abbrev pub line : List (List ℕ) → List ℕ
line ws = spaced ws ++ 10 ∷ []

-- decided commands, a line each, from instance i on
abbrev pub decided_lines : ℕ → List Command → List ℕ
decided_lines i [] = []
decided_lines i (c ∷ cs) = line (decimal i ∷ command_words c) ++ decided_lines (i + 1) cs

-- the text of a report: its lines, how many commands are decided, and these
abbrev pub report_text : Reported → List ℕ
report_text r = flat_map (λ l. line (report_words l)) r.lines ++ line (codes "decided" ∷ decimal (length r.decided) ∷ []) ++ decided_lines 0 r.decided
