-- A report as JSON: an object for each line.
use Rattle.std.specs.Prelude.{ℕ, ◌+◌, List, [], ◌∷◌, ◌++◌, length, map, codes, decimal}
use Rattle.std.specs.List.{flat_map}
use Rattle.rr_types.specs.declared.binding.Binding.{Binding}
use Rattle.rr_types.specs.declared.command.Command.{Command}
use Rattle.rr_types.specs.declared.command.Op.{Op}
use Rattle.rr_types.specs.declared.command.Operand.{Operand}
use Rattle.rr_types.specs.declared.command.Operand.TheVariants.{Nothing, Value, Owner}
use Rattle.rr_types.specs.Commands.{op_word, op_kind, op_name, op_operand}
use Rattle.rr_types.specs.declared.command.Reply.{Reply}
use Rattle.rr_types.specs.declared.message.Body.{Body}
use Rattle.rr_types.specs.declared.message.Body.TheVariants as bodies
use Rattle.rr_types.specs.declared.message.Message.{Message}
use Rattle.rr_types.specs.declared.message.MessageKind.TheVariants as says
use Rattle.rr_types.specs.Messages.{message_word}
use Rattle.rr_types.specs.Refusal.{number_of, name_of}
use Rattle.rr_text.specs.declared.report.ReportLine.{ReportLine}
use Rattle.rr_text.specs.declared.report.ReportLine.TheVariants as lines
use Rattle.rr_text.specs.ReportTexts.{reply_words}
use Rattle.rr_text.specs.Reported.{Reported}
use Rattle.rr_text.specs.Words.{member_digits}
use Rattle.rr_json.specs.Json.{quoted, label, begun, text_member, words_member, number_member, opened, object_line, listed}

-- the member of what stands beside a name: nothing, a value or the new owner
abbrev pub operand_member : Operand → List ℕ
operand_member Nothing = []
operand_member (Value value) = words_member (codes "value") value
operand_member (Owner owner) = number_member (codes "owner") owner

-- the members of an operation: its word, the name, then what stands beside it
abbrev pub op_members : Op → List ℕ
op_members op = text_member (codes "operation") (op_word (op_kind op)) ++ text_member (codes "name") (op_name op) ++ operand_member (op_operand op)

-- a command: its client, the client's own number, and its operation
abbrev pub command_object : Command → List ℕ
command_object c = begun (codes "client") ++ decimal c.request.client ++ number_member (codes "request") c.request.seq ++ op_members c.op ++ 125 ∷ []

-- a command as a member
abbrev pub command_member : Command → List ℕ
command_member c = label (codes "command") ++ command_object c

-- an instance as a member
abbrev pub instance_member : ℕ → List ℕ
instance_member i = number_member (codes "instance") i

-- a round as a member
abbrev pub round_member : ℕ → List ℕ
round_member r = number_member (codes "round") r

-- a set of nodes as a member: its members' numbers, ascending
abbrev pub set_member : ℕ → List ℕ
set_member s = label (codes "nodes") ++ 91 ∷ listed (map (λ d. d ∷ []) (member_digits 0 7 s)) ++ 93 ∷ []

-- what a message says: its kind, and the members that this kind has, without the end of the object
abbrev pub body_front : Body → List ℕ
body_front (bodies.Estimate i e) =
    opened (message_word says.Estimate) ++ instance_member i ++ round_member e.round ++ number_member (codes "stamp") e.stamp
    ++ command_member e.command
body_front (bodies.Proposal i r c) = opened (message_word says.Proposal) ++ instance_member i ++ round_member r ++ command_member c
body_front (bodies.Ack i r) = opened (message_word says.Ack) ++ instance_member i ++ round_member r
body_front (bodies.Decision i c) = opened (message_word says.Decision) ++ instance_member i ++ command_member c
body_front (bodies.Request c) = opened (message_word says.Request) ++ command_member c
body_front (bodies.Nack i r) = opened (message_word says.Nack) ++ instance_member i ++ round_member r
body_front bodies.Beat = opened (message_word says.Beat)
body_front (bodies.Suspects s) = opened (message_word says.Suspects) ++ set_member s
body_front (bodies.Ask i) = opened (message_word says.Ask) ++ instance_member i

-- a reply by its words: its kind, and the owner of a name that is taken, without the end of the object
abbrev pub reply_front : List (List ℕ) → List ℕ
reply_front [] = []
reply_front (word ∷ []) = opened word
reply_front (word ∷ owner ∷ words) = opened word ++ label (codes "owner") ++ owner

-- a reply as a member
abbrev pub reply_member : Reply → List ℕ
reply_member r = label (codes "reply") ++ reply_front (reply_words r) ++ 125 ∷ []

-- a bound name
abbrev pub binding_object : Binding → List ℕ
binding_object b = begun (codes "name") ++ quoted b.name ++ number_member (codes "owner") b.owner ++ words_member (codes "value") b.value ++ 125 ∷ []

-- bound names as a member
abbrev pub names_member : List Binding → List ℕ
names_member bindings = label (codes "names") ++ 91 ∷ listed (map binding_object bindings) ++ 93 ∷ []

-- the members of a message behind its number: its sender, the node it is for, and what it says
abbrev pub message_members : Message → List ℕ
message_members m = number_member (codes "from") m.from ++ number_member (codes "to") m.to ++ label (codes "message") ++ body_front m.body ++ 125 ∷ []

-- a line of a report as an object, without its end
abbrev pub line_front : ReportLine → List ℕ
line_front (lines.Send k m) = opened (codes "send") ++ number_member (codes "number") k ++ message_members m
line_front (lines.Ack p q r) =
    opened (codes "ack") ++ number_member (codes "node") p ++ number_member (codes "client") q.client ++ number_member (codes "request") q.seq
    ++ reply_member r
line_front (lines.Restart p facts decided bindings) =
    opened (codes "restart") ++ number_member (codes "node") p ++ number_member (codes "facts") facts ++ number_member (codes "decided") decided
    ++ names_member bindings
line_front (lines.Refuse line r) =
    opened (codes "refuse") ++ number_member (codes "line") line ++ number_member (codes "number") (number_of r)
    ++ text_member (codes "name") (name_of r)

-- a line of a report as an object
abbrev pub line_object : ReportLine → List ℕ
line_object l = line_front l ++ 125 ∷ 10 ∷ []

-- a decided command as an object, with its place
abbrev pub place_object : ℕ → Command → List ℕ
place_object i c = object_line (codes "command") (number_member (codes "place") i ++ command_member c)

-- decided commands, an object each, from this place on
abbrev pub place_objects : ℕ → List Command → List ℕ
place_objects i [] = []
place_objects i (c ∷ cs) = place_object i c ++ place_objects (i + 1) cs

-- how many commands are decided, and these
abbrev pub decided_objects : List Command → List ℕ
decided_objects decided = object_line (codes "decided") (number_member (codes "commands") (length decided)) ++ place_objects 0 decided

-- a report: an object for each of its lines, then those of the decided commands
abbrev pub report_objects : Reported → List ℕ
report_objects r = flat_map line_object r.lines ++ decided_objects r.decided
