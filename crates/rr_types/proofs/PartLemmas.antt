-- Operations and replies in their parts: parts and whole are inverse, and so are kinds with their words and bytes.
use Rattle.std.proofs.Common.{◌≡◌, ℕ, ◌≤◌, List, length, Bool, true, false, cond, eqb, leb, eqb-true, Option, None, Some, refl, sym, subst, arith}
use Rattle.std.specs.List.{list_all}
use Rattle.std.proofs.lemmas.Bool.{eqb-false}
use Rattle.std.proofs.lemmas.Option.{same_Some}
use Rattle.rr_types.specs.declared.command.Op.{Op}
use Rattle.rr_types.specs.declared.command.Op.TheVariants.{Claim, Update, Release, Transfer}
use Rattle.rr_types.specs.declared.command.OpKind.{OpKind}
use Rattle.rr_types.specs.declared.command.OpKind.TheVariants as kinds
use Rattle.rr_types.specs.declared.command.Shape.TheVariants.{Bare, Valued, Owned}
use Rattle.rr_types.specs.declared.command.Operand.{Operand}
use Rattle.rr_types.specs.declared.command.Operand.TheVariants.{Nothing, Value, Owner}
use Rattle.rr_types.specs.declared.command.Reply.{Reply}
use Rattle.rr_types.specs.declared.command.Reply.TheVariants as replies
use Rattle.rr_types.specs.declared.command.ReplyKind.{ReplyKind}
use Rattle.rr_types.specs.declared.command.ReplyKind.TheVariants as says
use Rattle.rr_types.specs.Commands.{find_by, op_kinds, op_word, op_byte, op_kind_of, op_shape, op_kind, op_name, op_operand, operand_shape, value_in, owner_in, op_of, reply_kinds, reply_word, reply_kind, reply_owner, reply_with}

-- ---- operations

-- the parts of an operation make it again
pub op_again : (op : Op) → op_of (op_kind op) (op_name op) (op_operand op) ≡ op
op_again (Claim name value) = refl
op_again (Update name value) = refl
op_again (Release name) = refl
op_again (Transfer name owner) = refl

-- what stands beside a name has the shape of the kind
pub op_shaped : (op : Op) → operand_shape (op_operand op) ≡ op_shape (op_kind op)
op_shaped (Claim name value) = refl
op_shaped (Update name value) = refl
op_shaped (Release name) = refl
op_shaped (Transfer name owner) = refl

-- an operand of a shape has its one content
pub nothing_again : (o : Operand) → operand_shape o ≡ Bare → Nothing ≡ o
nothing_again Nothing e = refl
nothing_again (Value v) e = absurd cc
nothing_again (Owner p) e = absurd cc

pub value_again : (o : Operand) → operand_shape o ≡ Valued → Value (value_in o) ≡ o
value_again Nothing e = absurd cc
value_again (Value v) e = refl
value_again (Owner p) e = absurd cc

pub owner_again : (o : Operand) → operand_shape o ≡ Owned → Owner (owner_in o) ≡ o
owner_again Nothing e = absurd cc
owner_again (Value v) e = absurd cc
owner_again (Owner p) e = refl

-- an operation that was made of parts has them
pub kind_of_made : (k : OpKind) (n : List ℕ) (o : Operand) → op_kind (op_of k n o) ≡ k
kind_of_made kinds.Claim n o = refl
kind_of_made kinds.Update n o = refl
kind_of_made kinds.Release n o = refl
kind_of_made kinds.Transfer n o = refl

pub name_of_made : (k : OpKind) (n : List ℕ) (o : Operand) → op_name (op_of k n o) ≡ n
name_of_made kinds.Claim n o = refl
name_of_made kinds.Update n o = refl
name_of_made kinds.Release n o = refl
name_of_made kinds.Transfer n o = refl

pub operand_of_made : (k : OpKind) (n : List ℕ) (o : Operand) → operand_shape o ≡ op_shape k → op_operand (op_of k n o) ≡ o
operand_of_made kinds.Claim n o e = value_again o e
operand_of_made kinds.Update n o e = value_again o e
operand_of_made kinds.Release n o e = nothing_again o e
operand_of_made kinds.Transfer n o e = owner_again o e

-- a kind is that of its word and that of its byte
pub word_again : (k : OpKind) → find_by op_word (op_word k) op_kinds ≡ Some k
word_again kinds.Claim = refl
word_again kinds.Update = refl
word_again kinds.Release = refl
word_again kinds.Transfer = refl

pub kind_again : (k : OpKind) → op_kind_of (op_byte k) ≡ k
kind_again kinds.Claim = refl
kind_again kinds.Update = refl
kind_again kinds.Release = refl
kind_again kinds.Transfer = refl

-- the bytes of kinds go from 1 to how many there are
pub byte_first : (k : OpKind) → 1 ≤ op_byte k
byte_first kinds.Claim = omega arith
byte_first kinds.Update = omega arith
byte_first kinds.Release = omega arith
byte_first kinds.Transfer = omega arith

pub byte_last : (k : OpKind) → op_byte k ≤ length op_kinds
byte_last kinds.Claim = omega arith
byte_last kinds.Update = omega arith
byte_last kinds.Release = omega arith
byte_last kinds.Transfer = omega arith

byte_by : (b : ℕ) → 1 ≤ b → b ≤ length op_kinds → (s t u : Bool) → eqb b 1 ≡ s → eqb b 2 ≡ t → eqb b 3 ≡ u → op_byte (cond s kinds.Claim (cond t kinds.Update (cond u kinds.Release kinds.Transfer))) ≡ b
byte_by b low high true t u e f g = sym (eqb-true b 1 e)
byte_by b low high false true u e f g = sym (eqb-true b 2 f)
byte_by b low high false false true e f g = sym (eqb-true b 3 g)
byte_by b low high false false false e f g = omega (arith, eqb-false b 1 e, eqb-false b 2 f, eqb-false b 3 g)

pub byte_again : (b : ℕ) → 1 ≤ b → b ≤ length op_kinds → op_byte (op_kind_of b) ≡ b
byte_again b low high = byte_by b low high (eqb b 1) (eqb b 2) (eqb b 3) refl refl refl

-- no word of a kind has a space or a byte below
pub word_is_plain : (k : OpKind) → list_all (λ b. leb 33 b) (op_word k) ≡ true
word_is_plain kinds.Claim = refl
word_is_plain kinds.Update = refl
word_is_plain kinds.Release = refl
word_is_plain kinds.Transfer = refl

-- ---- replies

-- the parts of a reply make it again
pub reply_again : (r : Reply) → reply_with (reply_kind r) (reply_owner r) ≡ Some r
reply_again replies.Claimed = refl
reply_again replies.Updated = refl
reply_again replies.Released = refl
reply_again replies.Transferred = refl
reply_again (replies.Taken owner) = refl
reply_again replies.Unknown = refl
reply_again replies.NotOwner = refl
reply_again replies.Full = refl

-- a reply has this kind, and names this owner
abbrev pub HasParts : ReplyKind → Option ℕ → Reply → Type 0
HasParts k o r = (reply_kind r ≡ k) × (reply_owner r ≡ o)

made : (k : ReplyKind) (o : Option ℕ) (x r : Reply) → HasParts k o x → Some x ≡ Some r → HasParts k o r
made k o x r h e = subst (HasParts k o) (same_Some x r e) h

-- a reply that was made of parts has them
pub parts_of_made : (k : ReplyKind) (o : Option ℕ) (r : Reply) → reply_with k o ≡ Some r → HasParts k o r
parts_of_made says.Claimed None r e = made says.Claimed None replies.Claimed r (refl, refl) e
parts_of_made says.Updated None r e = made says.Updated None replies.Updated r (refl, refl) e
parts_of_made says.Released None r e = made says.Released None replies.Released r (refl, refl) e
parts_of_made says.Transferred None r e = made says.Transferred None replies.Transferred r (refl, refl) e
parts_of_made says.Taken (Some p) r e = made says.Taken (Some p) (replies.Taken p) r (refl, refl) e
parts_of_made says.Unknown None r e = made says.Unknown None replies.Unknown r (refl, refl) e
parts_of_made says.NotOwner None r e = made says.NotOwner None replies.NotOwner r (refl, refl) e
parts_of_made says.Full None r e = made says.Full None replies.Full r (refl, refl) e
parts_of_made k o r e = absurd cc

-- a kind of replies is that of its word
pub reply_word_again : (k : ReplyKind) → find_by reply_word (reply_word k) reply_kinds ≡ Some k
reply_word_again says.Claimed = refl
reply_word_again says.Updated = refl
reply_word_again says.Released = refl
reply_word_again says.Transferred = refl
reply_word_again says.Taken = refl
reply_word_again says.Unknown = refl
reply_word_again says.NotOwner = refl
reply_word_again says.Full = refl

-- no word of a kind has a space or a byte below
pub reply_word_is_plain : (k : ReplyKind) → list_all (λ b. leb 33 b) (reply_word k) ≡ true
reply_word_is_plain says.Claimed = refl
reply_word_is_plain says.Updated = refl
reply_word_is_plain says.Released = refl
reply_word_is_plain says.Transferred = refl
reply_word_is_plain says.Taken = refl
reply_word_is_plain says.Unknown = refl
reply_word_is_plain says.NotOwner = refl
reply_word_is_plain says.Full = refl
