-- What the calls of C ask for.
use Rattle.std.specs.Prelude.{◌≡◌, ◌≤◌, ℕ, List, length, take, Option, None, Some, Result}
use Rattle.rr_types.specs.declared.command.Command.{Command}
use Rattle.rr_types.specs.declared.command.Op.{Op}
use Rattle.rr_types.specs.declared.command.Operand.{Operand}
use Rattle.rr_types.specs.declared.command.Operand.TheVariants.{Nothing, Value, Owner}
use Rattle.rr_types.specs.declared.command.Reply.{Reply}
use Rattle.rr_types.specs.declared.command.Shape.{Shape}
use Rattle.rr_types.specs.declared.command.Shape.TheVariants.{Bare, Valued, Owned}
use Rattle.rr_types.specs.declared.refusal.Refusal.{Refusal}
use Rattle.rr_types.specs.Names.{IsName, IsValue}
use Rattle.rr_types.specs.Commands.{op_kind_of, op_shape, op_of, op_name}
use Rattle.rr_host.specs.Doings.{IsOf}
use Rattle.rr_host.specs.Hosts.{LeavesOn}
use Rattle.rr_host.specs.declared.doing.Doing.{Doing}
use Rattle.rr_host.specs.declared.host.Host.{Host}
use Rattle.rr_host.specs.declared.up.Leaving.{Leaving}
use Rattle.rr_handle.specs.Seen.{status_of}
use Rattle.rr_c.specs.Shown.{ack_of, standing_of}
use Rattle.rr_c.specs.declared.shown.RrAck.{RrAck}
use Rattle.rr_c.specs.declared.shown.RrStanding.{RrStanding}

-- what stands beside the name, by the shape of the kind: the value counts for some kinds, and the owner for one
abbrev pub operand_asked : Shape → List ℕ → ℕ → Operand
operand_asked Bare value owner = Nothing
operand_asked Valued value owner = Value value
operand_asked Owned value owner = Owner owner

-- there is an operation of this kind with this name, and with this value if the kind has one
abbrev pub IsOp : ℕ → List ℕ → List ℕ → Type 0
IsOp kind name value = (1 ≤ kind) × (kind ≤ 4) × IsName name × (op_shape (op_kind_of kind) ≡ Valued → IsValue value)

-- the operation of a kind from 1 to 4
abbrev pub op_asked : ℕ → List ℕ → List ℕ → ℕ → Op
op_asked kind name value owner = op_of (op_kind_of kind) name (operand_asked (op_shape (op_kind_of kind)) value owner)

-- the command that a client asks for
abbrev pub command_asked : ℕ → ℕ → ℕ → List ℕ → List ℕ → ℕ → Command
command_asked client seq kind name value owner = record { request = record { client = client; seq = seq }; op = op_asked kind name value owner }

-- a handle has a node that opens, or has just come up
abbrev pub Opens : ℕ → ℕ → Option Host → Type 0
Opens n p None = ⊥
Opens n p (Some h) = (h.nodes ≡ n) × (h.node ≡ p) × IsOf n p h.doing

-- a message has left, and may be lost
abbrev pub LeavesAny : Doing → Doing → Type 0
LeavesAny d e = (r : Result Leaving Refusal) × LeavesOn d r e

-- a decided command with the reply to its request, and the buffer that its name is in
abbrev pub Shows : Option (Command × Option Reply) → RrAck → ℕ → List ℕ → Type 0
Shows None ack len out = (ack.reply ≡ 0) × (len ≡ 0)
Shows (Some a) ack len out = (ack ≡ ack_of a.0.request a.1) × (len ≡ length (op_name a.0.op)) × (take len out ≡ op_name a.0.op)

-- how the node in a handle stands
abbrev pub Stands : Option Host → RrStanding → Type 0
Stands None shown = ⊥
Stands (Some h) shown = shown ≡ standing_of (status_of h)
