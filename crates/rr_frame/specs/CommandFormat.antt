-- Commands as bytes: client, its number for the request, operation, length of the name and the name, then
-- length of the value and the value, or the new owner.
use Rattle.std.specs.Prelude.{ℕ, ◌<◌, ◌≤◌, ◌^◌, ◌&&◌, nat_le, List, [], ◌++◌, length, Ok}
use Rattle.rr_types.specs.declared.command.Op.{Op}
use Rattle.rr_types.specs.declared.command.Shape.{Shape}
use Rattle.rr_types.specs.declared.command.Shape.TheVariants.{Bare, Valued, Owned}
use Rattle.rr_types.specs.declared.command.Operand.{Operand}
use Rattle.rr_types.specs.declared.command.Operand.TheVariants.{Nothing, Value, Owner}
use Rattle.rr_types.specs.declared.command.Command.{Command}
use Rattle.rr_types.specs.Commands.{op_byte, op_kind_of, op_shape, op_kind, op_name, op_operand, op_of}
use Rattle.rr_types.specs.Names.{IsValue, is_name_byte, is_value_byte}
use Rattle.rr_types.specs.Limits.{max_text}
use Rattle.rr_frame.specs.Numbers.{number_bytes}
use Rattle.rr_frame.specs.declared.version.Version.{Version}
use Rattle.rr_frame.specs.declared.version.Version.TheVariants.{Two}
use Rattle.rr_frame.specs.Versions.{longest_name, operations, IsNameIn}
use Rattle.rr_frame.specs.Reading.{Reading, ◌>>=◌, if_lawful, number_at, text_at}

-- a name or a value: one byte of length, and that many bytes
abbrev pub text_bytes : List ℕ → List ℕ
text_bytes text = number_bytes 1 (length text) ++ text

-- what stands behind the name: nothing, the value or the new owner
abbrev pub operand_bytes : Operand → List ℕ
operand_bytes Nothing = []
operand_bytes (Value value) = text_bytes value
operand_bytes (Owner owner) = number_bytes 4 owner

-- an operation: its kind's byte, the name, and what stands beside it
unfoldable pub op_bytes : Op → List ℕ
op_bytes op = number_bytes 1 (op_byte (op_kind op)) ++ (text_bytes (op_name op) ++ operand_bytes (op_operand op))

-- the one spelling of a command
unfoldable pub command_bytes : Command → List ℕ
command_bytes c = number_bytes 4 c.request.client ++ (number_bytes 8 c.request.seq ++ op_bytes c.op)

-- what may stand behind a name
abbrev pub IsLawfulOperand : Operand → Type 0
IsLawfulOperand Nothing = Unit {0}
IsLawfulOperand (Value value) = IsValue value
IsLawfulOperand (Owner owner) = owner < 2 ^ 32

-- an operation that has a spelling in a version
pub record IsLawfulOpIn (version : Version) (op : Op) : Type 0 where
  pub name : IsNameIn version (op_name op)
  pub operand : IsLawfulOperand (op_operand op)
  pub known : op_byte (op_kind op) ≤ operations version

-- a command that has a spelling in a version
pub record IsLawfulCommandIn (version : Version) (c : Command) : Type 0 where
  pub client : c.request.client < 2 ^ 32
  pub seq : c.request.seq < 2 ^ 64
  pub op : IsLawfulOpIn version c.op

-- the same in version 2, which is written
abbrev pub IsLawfulOp : Op → Type 0
IsLawfulOp op = IsLawfulOpIn Two op

abbrev pub IsLawfulCommand : Command → Type 0
IsLawfulCommand c = IsLawfulCommandIn Two c

-- a name at the front
unfoldable pub name_at : Version → List ℕ → Reading (List ℕ)
name_at version bytes = do
  count ← number_at 1 bytes
  count ← if_lawful (nat_le 1 count.0 && nat_le count.0 (longest_name version)) bytes count
  text_at is_name_byte count.0 count.1

-- a value at the front
unfoldable pub value_at : List ℕ → Reading (List ℕ)
value_at bytes = do
  count ← number_at 1 bytes
  count ← if_lawful (nat_le count.0 max_text) bytes count
  text_at is_value_byte count.0 count.1

-- what stands behind the name, by the kind's shape
unfoldable pub operand_at : Shape → List ℕ → Reading Operand
operand_at Bare bytes = Ok (Nothing, bytes)
operand_at Valued bytes = value_at bytes >>= λ (v : List ℕ × List ℕ). Ok (Value v.0, v.1)
operand_at Owned bytes = number_at 4 bytes >>= λ (o : ℕ × List ℕ). Ok (Owner o.0, o.1)

-- an operation at the front
unfoldable pub op_at : Version → List ℕ → Reading Op
op_at version bytes = do
  kind ← number_at 1 bytes
  kind ← if_lawful (nat_le 1 kind.0 && nat_le kind.0 (operations version)) bytes kind
  name ← name_at version kind.1
  operand ← operand_at (op_shape (op_kind_of kind.0)) name.1
  Ok (op_of (op_kind_of kind.0) name.0 operand.0, operand.1)

-- a command at the front
unfoldable pub command_at : Version → List ℕ → Reading Command
command_at version bytes = do
  client ← number_at 4 bytes
  seq ← number_at 8 client.1
  op ← op_at version seq.1
  Ok (record { request = record { client = client.0; seq = seq.0 }; op = op.0 }, op.1)
