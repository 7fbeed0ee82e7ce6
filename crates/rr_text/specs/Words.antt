-- The words that schedules and reports have in common, and how they make a line.
use Rattle.std.specs.Prelude.{ℕ, ◌+◌, ◌/◌, ◌%◌, ◌^◌, ◌<◌, if◌then◌else◌, ◌==◌, nat_lt, zero, suc, List, [], ◌∷◌, ◌++◌, codes, decimal}
use Rattle.std.specs.List.{flat_map, AllByRecursion}
use Rattle.rr_types.specs.declared.command.Op.{Op}
use Rattle.rr_types.specs.declared.command.Operand.{Operand}
use Rattle.rr_types.specs.declared.command.Operand.TheVariants.{Nothing, Value, Owner}
use Rattle.rr_types.specs.declared.command.Command.{Command}
use Rattle.rr_types.specs.Commands.{op_word, op_kind, op_name, op_operand}
use Rattle.rr_types.specs.Names.{IsName, IsValue}

-- words, divided by one space
abbrev pub spaced : List (List ℕ) → List ℕ
spaced [] = []
spaced (w ∷ []) = w
spaced (w ∷ x ∷ ws) = w ++ 32 ∷ spaced (x ∷ ws)

-- a value as a word; the empty value is no word
abbrev pub value_words : List ℕ → List (List ℕ)
value_words [] = []
value_words (b ∷ bs) = (b ∷ bs) ∷ []

-- what an operation has beside its name: nothing, a value or the new owner
abbrev pub operand_words : Operand → List (List ℕ)
operand_words Nothing = []
operand_words (Value value) = value_words value
operand_words (Owner owner) = decimal owner ∷ []

-- an operation: its word, the name, then what stands beside it
abbrev pub op_words : Op → List (List ℕ)
op_words op = op_word (op_kind op) ∷ op_name op ∷ operand_words (op_operand op)

-- the members of a set among k nodes from p on, each as its digit, ascending; bit 0 of the set is node p
abbrev pub member_digits : ℕ → ℕ → ℕ → List ℕ
member_digits p zero set = []
member_digits p (suc k) set = if set % 2 == 1 then (48 + p) ∷ member_digits (p + 1) k (set / 2) else member_digits (p + 1) k (set / 2)

-- a set of nodes: a hyphen for none, else its members' digits, ascending
abbrev pub set_text : ℕ → List ℕ
set_text zero = codes "-"
set_text (suc s) = member_digits 0 7 (suc s)

-- an upper-case hex digit
abbrev pub hex_digit : ℕ → ℕ
hex_digit d = if nat_lt d 10 then 48 + d else 55 + d

-- a byte as two hex digits
abbrev pub hex_pair : ℕ → List ℕ
hex_pair b = hex_digit (b / 16) ∷ hex_digit (b % 16) ∷ []

-- the bytes of a fill: a hyphen for none, else a pair of hex digits each
abbrev pub fill_text : List ℕ → List ℕ
fill_text [] = codes "-"
fill_text (b ∷ bs) = flat_map hex_pair (b ∷ bs)

-- what may stand beside a name
abbrev pub IsOperand : Operand → Type 0
IsOperand Nothing = Unit {0}
IsOperand (Value value) = IsValue value
IsOperand (Owner owner) = owner < 2 ^ 32

-- an operation on a name, with a value or an owner that there can be
abbrev pub IsOp : Op → Type 0
IsOp op = IsName (op_name op) × IsOperand (op_operand op)

-- a command with numbers in their ranges
pub record IsCommand (c : Command) : Type 0 where
  pub client : c.request.client < 2 ^ 32
  pub seq : c.request.seq < 2 ^ 64
  pub op : IsOp c.op

-- bytes of a fill
abbrev pub IsFill : List ℕ → Type 0
IsFill bytes = AllByRecursion (λ b. b < 256) bytes
