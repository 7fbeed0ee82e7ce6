-- Reading words from left to right: what each reader of the code gives.
use Rattle.std.specs.Prelude.{ℕ, ◌+◌, ◌-◌, ◌*◌, ◌^◌, ◌==◌, nat_lt, nat_le, ◌&&◌, if◌then◌else◌, zero, suc, List, [], ◌∷◌, length, take, drop, codes, Option, None, Some}
use Rattle.std.specs.List.{list_all, position}
use Rattle.std.specs.Str.{bytes_eq}
use Rattle.std.specs.Str.Parse.{digits_value}
use Rattle.rr_types.specs.declared.command.Op.{Op}
use Rattle.rr_types.specs.declared.command.OpKind.{OpKind}
use Rattle.rr_types.specs.declared.command.Shape.{Shape}
use Rattle.rr_types.specs.declared.command.Shape.TheVariants.{Bare, Valued, Owned}
use Rattle.rr_types.specs.declared.command.Operand.TheVariants.{Nothing, Value, Owner}
use Rattle.rr_types.specs.declared.command.Command.{Command}
use Rattle.rr_types.specs.declared.message.MessageKind.{MessageKind}
use Rattle.rr_types.specs.declared.message.MessageKind.TheVariants as messages
use Rattle.rr_types.specs.declared.input.Input.TheVariants as input
use Rattle.rr_types.specs.declared.event.NodeEvent.{NodeEvent}
use Rattle.rr_types.specs.declared.event.NodeEvent.TheVariants as node
use Rattle.rr_types.specs.Commands.{find_by, op_word, op_kinds, op_shape, op_of}
use Rattle.rr_types.specs.Messages.{message_word}
use Rattle.rr_types.specs.Names.{is_name_byte, is_value_byte}
use Rattle.rr_text.specs.declared.event.Event.{Event}
use Rattle.rr_text.specs.declared.event.Happening.{Happening}
use Rattle.rr_text.specs.declared.event.Happening.TheVariants as happening
use Rattle.rr_text.specs.Events.{event_of}
use Rattle.rr_text.specs.declared.kind.EventKind.{EventKind}
use Rattle.rr_text.specs.declared.kind.EventKind.TheVariants.{Submit, Hear, Suspect, Tick, Advance, Take, Device, Fail, Mark, Send, Ack, Snap, Crash, Restart}
use Rattle.rr_text.specs.Numbers.{is_number}

infixl 10 ◌>>=◌
abbrev pub ◌>>=◌ : {A B : Type 0} → Option A → (A → Option B) → Option B
(Some x) >>= f = f x
None >>= f = None

-- what stands before place i and behind it
abbrev pub cut_by : List ℕ → Option ℕ → Option (List ℕ × List ℕ)
cut_by text None = None
cut_by text (Some i) = Some (take i text, drop (i + 1) text)

-- what stands before the first byte c and behind it
abbrev pub cut_at : ℕ → List ℕ → Option (List ℕ × List ℕ)
cut_at c text = cut_by text (position (λ b. b == c) text)

-- a number below 2 ^ 64
abbrev pub number_at : List ℕ → Option ℕ
number_at w = if is_number w then (if nat_lt (digits_value 10 w) (2 ^ 64) then Some (digits_value 10 w) else None) else None

-- a number below 2 ^ 32
abbrev pub small_at : List ℕ → Option ℕ
small_at w = number_at w >>= λ n. if nat_lt n (2 ^ 32) then Some n else None

-- a node of n
abbrev pub node_at : ℕ → List ℕ → Option ℕ
node_at n [] = None
node_at n (b ∷ []) = if nat_le 48 b && nat_lt (b - 48) n then Some (b - 48) else None
node_at n (b ∷ c ∷ w) = None

-- a name
abbrev pub name_at : List ℕ → Option (List ℕ)
name_at w = if nat_le 1 (length w) && (nat_le (length w) 64 && list_all is_name_byte w) then Some w else None

-- a value that is a word
abbrev pub filled_value_at : List ℕ → Option (List ℕ)
filled_value_at [] = None
filled_value_at (b ∷ w) = if nat_le (length (b ∷ w)) 64 && list_all is_value_byte (b ∷ w) then Some (b ∷ w) else None

-- a set of nodes among k from p on
abbrev pub members_at : ℕ → ℕ → List ℕ → Option ℕ
members_at p zero [] = Some 0
members_at p zero (b ∷ w) = None
members_at p (suc k) [] = members_at (p + 1) k [] >>= λ s. Some (2 * s)
members_at p (suc k) (b ∷ w) = if b == 48 + p then (members_at (p + 1) k w >>= λ s. Some (2 * s + 1)) else (members_at (p + 1) k (b ∷ w) >>= λ s. Some (2 * s))

-- a set of nodes below n
abbrev pub set_at : ℕ → List ℕ → Option ℕ
set_at n w = if bytes_eq w (codes "-") then Some 0 else (members_at 0 7 w >>= λ s. if nat_lt 0 s && nat_lt s (2 ^ n) then Some s else None)

-- the value of an upper-case hex digit
abbrev pub hex_value : ℕ → Option ℕ
hex_value b = if nat_le 48 b && nat_le b 57 then Some (b - 48) else (if nat_le 65 b && nat_le b 70 then Some (b - 55) else None)

-- a byte as two hex digits
abbrev pub hex_byte : ℕ → ℕ → Option ℕ
hex_byte h l = hex_value h >>= λ high. hex_value l >>= λ low. Some (16 * high + low)

-- bytes as pairs of hex digits
abbrev pub pairs_at : List ℕ → Option (List ℕ)
pairs_at [] = Some []
pairs_at (h ∷ []) = None
pairs_at (h ∷ l ∷ w) = hex_byte h l >>= λ b. pairs_at w >>= λ bs. Some (b ∷ bs)

-- the bytes of a fill
abbrev pub fill_at : List ℕ → Option (List ℕ)
fill_at [] = None
fill_at (b ∷ w) = if bytes_eq (b ∷ w) (codes "-") then Some [] else pairs_at (b ∷ w)

-- the kind of operations that a word stands for
abbrev pub op_kind_at : List ℕ → Option OpKind
op_kind_at w = find_by op_word w op_kinds

-- the kind of messages that a word stands for
abbrev pub message_kind_at : List ℕ → Option MessageKind
message_kind_at w =
    find_by message_word w
    (messages.Estimate ∷ messages.Proposal ∷ messages.Ack ∷ messages.Decision ∷ messages.Request ∷ messages.Nack ∷ messages.Beat
    ∷ messages.Suspects ∷ messages.Ask ∷ [])

-- a name and a value, where both are there
abbrev pub name_and_value : Option (List ℕ) → Option (List ℕ) → Option (List ℕ × List ℕ)
name_and_value name value = name >>= λ x. value >>= λ v. Some (x, v)

-- a name and a value, from the whole text or from its parts at the first space
abbrev pub named_from : List ℕ → Option (List ℕ × List ℕ) → Option (List ℕ × List ℕ)
named_from text None = name_and_value (name_at text) (Some [])
named_from text (Some w) = name_and_value (name_at w.0) (filled_value_at w.1)

-- a name, and a value behind it or none
abbrev pub named_at : List ℕ → Option (List ℕ × List ℕ)
named_at text = named_from text (cut_at 32 text)

-- an operation of this kind, where operations of the kind have this beside their names
abbrev pub shaped_at : OpKind → Shape → List ℕ → Option Op
shaped_at k Bare text = name_at text >>= λ x. Some (op_of k x Nothing)
shaped_at k Valued text = named_at text >>= λ x. Some (op_of k x.0 (Value x.1))
shaped_at k Owned text = cut_at 32 text >>= λ w. name_at w.0 >>= λ x. small_at w.1 >>= λ o. Some (op_of k x (Owner o))

-- an operation of this kind
abbrev pub target_at : OpKind → List ℕ → Option Op
target_at k text = shaped_at k (op_shape k) text

-- an operation
abbrev pub op_at : List ℕ → Option Op
op_at text = cut_at 32 text >>= λ w. op_kind_at w.0 >>= λ k. target_at k w.1

-- a command as the words of a submit have it
abbrev pub submitted_at : List ℕ → Option Command
submitted_at text =
    cut_at 32 text >>= λ c.
    small_at c.0 >>= λ client.
    cut_at 32 c.1 >>= λ s.
    number_at s.0 >>= λ seq.
    op_at s.1 >>= λ op.
    Some (record { request = record { client = client; seq = seq }; op = op })

-- the word of each event
abbrev pub keyword_text : EventKind → List ℕ
keyword_text Submit = codes "submit"
keyword_text Hear = codes "hear"
keyword_text Suspect = codes "suspect"
keyword_text Tick = codes "tick"
keyword_text Advance = codes "advance"
keyword_text Take = codes "take"
keyword_text Device = codes "dev"
keyword_text Fail = codes "fail"
keyword_text Mark = codes "mark"
keyword_text Send = codes "send"
keyword_text Ack = codes "ack"
keyword_text Snap = codes "snap"
keyword_text Crash = codes "crash"
keyword_text Restart = codes "restart"

-- the event that a word stands for
abbrev pub keyword_at : List ℕ → Option EventKind
keyword_at w = find_by keyword_text w (Submit ∷ Hear ∷ Suspect ∷ Tick ∷ Advance ∷ Take ∷ Device ∷ Fail ∷ Mark ∷ Send ∷ Ack ∷ Snap ∷ Crash ∷ Restart ∷ [])

-- a node of n and the text behind it
abbrev pub first_node_at : ℕ → List ℕ → Option (ℕ × List ℕ)
first_node_at n text = cut_at 32 text >>= λ w. node_at n w.0 >>= λ p. Some (p, w.1)

-- the two cuts of a crash and its fill
abbrev pub cuts_at : List ℕ → Option (ℕ × ℕ × List ℕ)
cuts_at text =
    cut_at 32 text >>= λ a.
    small_at a.0 >>= λ cut_0.
    cut_at 32 a.1 >>= λ b.
    small_at b.0 >>= λ cut_1.
    fill_at b.1 >>= λ fill.
    Some (cut_0, cut_1, fill)

-- the event of a node that a keyword means, where a line of it has nothing but the node
abbrev pub plain_at : EventKind → Option (NodeEvent ℕ)
plain_at Tick = Some (node.Told input.Tick)
plain_at Advance = Some (node.Told input.Advance)
plain_at Take = Some node.Take
plain_at Device = Some node.Device
plain_at Mark = Some node.Mark
plain_at Send = Some node.Send
plain_at Ack = Some node.Acknowledge
plain_at Snap = Some node.Snap
plain_at Restart = Some node.Restart
plain_at _ = None

-- what happens by a line of any other keyword, whose text behind the node this is, among n nodes
abbrev pub about_at : ℕ → EventKind → List ℕ → Option Happening
about_at n Submit text = submitted_at text >>= λ c. Some (happening.At (node.Told (input.Submit c)))
about_at n Hear text = small_at text >>= λ k. Some (happening.At (node.Told (input.Hear k)))
about_at n Suspect text = set_at n text >>= λ s. Some (happening.At (node.Told (input.Suspect s)))
about_at n Fail text = fill_at text >>= λ f. Some (happening.Fail f)
about_at n Crash text = cuts_at text >>= λ c. Some (happening.Crash c.0 c.1 c.2)
about_at n _ text = None

-- the event that the text behind a keyword says, among n nodes: a node alone, or a node and more
abbrev pub said_at : ℕ → EventKind → Option (NodeEvent ℕ) → List ℕ → Option Event
said_at n k (Some event) text = node_at n text >>= λ p. Some (event_of p event)
said_at n k None text = first_node_at n text >>= λ p. about_at n k p.1 >>= λ what. Some (record { node = p.0; what = what })

-- the event of this keyword among n nodes
abbrev pub fields_at : ℕ → EventKind → List ℕ → Option Event
fields_at n k text = said_at n k (plain_at k) text

-- an event among n nodes
abbrev pub event_at : ℕ → List ℕ → Option Event
event_at n text = cut_at 32 text >>= λ w. keyword_at w.0 >>= λ k. fields_at n k w.1

-- how many nodes a word says that there are
abbrev pub nodes_at : List ℕ → Option ℕ
nodes_at [] = None
nodes_at (b ∷ []) = if nat_le 49 b && nat_le b 55 then Some (b - 48) else None
nodes_at (b ∷ c ∷ w) = None

-- the word behind the first line's own
abbrev pub count_at : List ℕ → Option (List ℕ)
count_at text = cut_at 32 text >>= λ w. if bytes_eq w.0 (codes "nodes") then Some w.1 else None
