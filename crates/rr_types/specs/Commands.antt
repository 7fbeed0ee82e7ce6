-- The kinds of operations and of replies with their words, an operation and a reply in their parts, and whether two operations or commands are one.
use Rattle.std.specs.Prelude.{ℕ, List, [], ◌∷◌, ◌++◌, Bool, true, false, ◌&&◌, ◌==◌, if◌then◌else◌, Option, None, Some, codes}
use Rattle.std.specs.Str.{bytes_eq}
use Rattle.rr_types.specs.declared.command.Op.{Op}
use Rattle.rr_types.specs.declared.command.Op.TheVariants.{Claim, Update, Release, Transfer}
use Rattle.rr_types.specs.declared.command.OpKind.{OpKind}
use Rattle.rr_types.specs.declared.command.OpKind.TheVariants as kinds
use Rattle.rr_types.specs.declared.command.Shape.{Shape}
use Rattle.rr_types.specs.declared.command.Shape.TheVariants.{Bare, Valued, Owned}
use Rattle.rr_types.specs.declared.command.Operand.{Operand}
use Rattle.rr_types.specs.declared.command.Operand.TheVariants.{Nothing, Value, Owner}
use Rattle.rr_types.specs.declared.command.Command.{Command}
use Rattle.rr_types.specs.declared.command.Reply.{Reply}
use Rattle.rr_types.specs.declared.command.Reply.TheVariants as replies
use Rattle.rr_types.specs.declared.command.ReplyKind.{ReplyKind}
use Rattle.rr_types.specs.declared.command.ReplyKind.TheVariants as says
use Rattle.rr_types.specs.Registry.{is_same_request}

-- the thing whose text a word is
abbrev pub find_by : {K : Type 0} → (K → List ℕ) → List ℕ → List K → Option K
find_by text w [] = None
find_by text w (k ∷ ks) = if bytes_eq w (text k) then Some k else find_by text w ks

-- the kinds of operations
abbrev pub op_kinds : List OpKind
op_kinds = kinds.Claim ∷ kinds.Update ∷ kinds.Release ∷ kinds.Transfer ∷ []

-- the word of a kind of operations
abbrev pub op_word : OpKind → List ℕ
op_word kinds.Claim = codes "claim"
op_word kinds.Update = codes "update"
op_word kinds.Release = codes "release"
op_word kinds.Transfer = codes "transfer"

-- its byte on a disk and in messages
abbrev pub op_byte : OpKind → ℕ
op_byte kinds.Claim = 1
op_byte kinds.Update = 2
op_byte kinds.Release = 3
op_byte kinds.Transfer = 4

-- the kind of a byte, of which there are as many as kinds
abbrev pub op_kind_of : ℕ → OpKind
op_kind_of byte = if byte == 1 then kinds.Claim else (if byte == 2 then kinds.Update else (if byte == 3 then kinds.Release else kinds.Transfer))

-- what operations of a kind have beside their names
abbrev pub op_shape : OpKind → Shape
op_shape kinds.Claim = Valued
op_shape kinds.Update = Valued
op_shape kinds.Release = Bare
op_shape kinds.Transfer = Owned

-- words for people, divided by commas
abbrev pub listed : List (List ℕ) → List ℕ
listed [] = []
listed (w ∷ []) = w
listed (w ∷ x ∷ ws) = w ++ codes ", " ++ listed (x ∷ ws)

-- words of which one is expected, divided by commas and an or
abbrev pub either : List (List ℕ) → List ℕ
either [] = []
either (w ∷ []) = w
either (w ∷ x ∷ []) = w ++ codes " or " ++ x
either (w ∷ x ∷ y ∷ ws) = w ++ codes ", " ++ either (x ∷ y ∷ ws)

-- what people write beside the name, by its shape
abbrev pub shape_form : Shape → List ℕ
shape_form Bare = []
shape_form Valued = codes " [VALUE]"
shape_form Owned = codes " OWNER"

-- how people write operations of a kind
abbrev pub op_form : OpKind → List ℕ
op_form kind = op_word kind ++ codes " NAME" ++ shape_form (op_shape kind)

-- the kind of an operation
abbrev pub op_kind : Op → OpKind
op_kind (Claim name value) = kinds.Claim
op_kind (Update name value) = kinds.Update
op_kind (Release name) = kinds.Release
op_kind (Transfer name owner) = kinds.Transfer

-- the name that it is about
abbrev pub op_name : Op → List ℕ
op_name (Claim name value) = name
op_name (Update name value) = name
op_name (Release name) = name
op_name (Transfer name owner) = name

-- what it has beside its name
abbrev pub op_operand : Op → Operand
op_operand (Claim name value) = Value value
op_operand (Update name value) = Value value
op_operand (Release name) = Nothing
op_operand (Transfer name owner) = Owner owner

-- what kind of thing stands beside a name
abbrev pub operand_shape : Operand → Shape
operand_shape Nothing = Bare
operand_shape (Value value) = Valued
operand_shape (Owner owner) = Owned

-- the value beside a name, where there is one
abbrev pub value_in : Operand → List ℕ
value_in Nothing = []
value_in (Value value) = value
value_in (Owner owner) = []

-- the owner beside a name, where there is one
abbrev pub owner_in : Operand → ℕ
owner_in Nothing = 0
owner_in (Value value) = 0
owner_in (Owner owner) = owner

-- the operation of these parts, where the third has the kind's shape
abbrev pub op_of : OpKind → List ℕ → Operand → Op
op_of kinds.Claim name operand = Claim name (value_in operand)
op_of kinds.Update name operand = Update name (value_in operand)
op_of kinds.Release name operand = Release name
op_of kinds.Transfer name operand = Transfer name (owner_in operand)

-- whether the same stands beside two names
abbrev pub is_same_operand : Operand → Operand → Bool
is_same_operand Nothing Nothing = true
is_same_operand (Value v) (Value w) = bytes_eq v w
is_same_operand (Owner o) (Owner p) = o == p
is_same_operand a b = false

-- whether two operations are one: kind, name, and what stands beside it
abbrev pub is_same_op : Op → Op → Bool
is_same_op a b = op_byte (op_kind a) == op_byte (op_kind b) && (bytes_eq (op_name a) (op_name b) && is_same_operand (op_operand a) (op_operand b))

-- whether two commands are one: request number and operation
abbrev pub is_same_command : Command → Command → Bool
is_same_command c d = is_same_request c.request d.request && is_same_op c.op d.op

-- the kinds of replies
abbrev pub reply_kinds : List ReplyKind
reply_kinds = says.Claimed ∷ says.Updated ∷ says.Released ∷ says.Transferred ∷ says.Taken ∷ says.Unknown ∷ says.NotOwner ∷ says.Full ∷ []

-- the word of a kind of replies
abbrev pub reply_word : ReplyKind → List ℕ
reply_word says.Claimed = codes "claimed"
reply_word says.Updated = codes "updated"
reply_word says.Released = codes "released"
reply_word says.Transferred = codes "transferred"
reply_word says.Taken = codes "taken"
reply_word says.Unknown = codes "unknown"
reply_word says.NotOwner = codes "notowner"
reply_word says.Full = codes "full"

-- the kind of a reply
abbrev pub reply_kind : Reply → ReplyKind
reply_kind replies.Claimed = says.Claimed
reply_kind replies.Updated = says.Updated
reply_kind replies.Released = says.Released
reply_kind replies.Transferred = says.Transferred
reply_kind (replies.Taken owner) = says.Taken
reply_kind replies.Unknown = says.Unknown
reply_kind replies.NotOwner = says.NotOwner
reply_kind replies.Full = says.Full

-- the owner that a reply names
abbrev pub reply_owner : Reply → Option ℕ
reply_owner (replies.Taken owner) = Some owner
reply_owner _ = None

-- the reply of these parts, where the kind names an owner just if one is there
abbrev pub reply_with : ReplyKind → Option ℕ → Option Reply
reply_with says.Claimed None = Some replies.Claimed
reply_with says.Updated None = Some replies.Updated
reply_with says.Released None = Some replies.Released
reply_with says.Transferred None = Some replies.Transferred
reply_with says.Taken (Some owner) = Some (replies.Taken owner)
reply_with says.Unknown None = Some replies.Unknown
reply_with says.NotOwner None = Some replies.NotOwner
reply_with says.Full None = Some replies.Full
reply_with kind owner = None
