-- A command that is read is the command that was written, and what was written is read again.
use Rattle.std.proofs.Common.{◌≡◌, ℕ, ◌≤◌, Bool, true, false, cond, leb, ◌&&◌, List, ◌++◌, length, Ok, refl, ap, subst, ◌∙◌, append_assoc, arith, inl, inr, ◌⊎◌}
use Rattle.std.proofs.lemmas.Bool.{and_parts, and_from, leb-true, le-leb}
use Rattle.rr_types.specs.declared.command.Op.{Op}
use Rattle.rr_types.specs.declared.command.OpKind.{OpKind}
use Rattle.rr_types.specs.declared.command.Shape.{Shape}
use Rattle.rr_types.specs.declared.command.Shape.TheVariants.{Bare, Valued, Owned}
use Rattle.rr_types.specs.declared.command.Operand.{Operand}
use Rattle.rr_types.specs.declared.command.Operand.TheVariants.{Nothing, Value, Owner}
use Rattle.rr_types.specs.declared.command.Command.{Command}
use Rattle.rr_types.specs.Commands.{op_kinds, op_byte, op_kind_of, op_shape, op_kind, op_name, op_operand, operand_shape, op_of}
use Rattle.rr_types.proofs.PartLemmas.{op_again as op_of_parts, op_shaped, kind_of_made, name_of_made, operand_of_made, kind_again, byte_first, byte_again}
use Rattle.rr_types.specs.Names.{IsValue, is_name_byte, is_value_byte}
use Rattle.rr_frame.specs.Numbers.{number_bytes}
use Rattle.rr_frame.specs.declared.version.Version.{Version}
use Rattle.rr_frame.specs.Versions.{longest_name, operations, IsNameIn}
use Rattle.rr_frame.specs.Reading.{Reading, ◌>>=◌, text_at}
use Rattle.rr_frame.specs.CommandFormat.{text_bytes, operand_bytes, op_bytes, command_bytes, IsLawfulOperand, IsLawfulOpIn, IsLawfulCommandIn, name_at, value_at, operand_at, op_at, command_at}
use Rattle.rr_frame.proofs.VersionLaws.{names_at_most, operations_at_most}
use Rattle.rr_frame.proofs.FieldLaws.{IsBytes, bind_ok, ok_is, Takes, Takes-then, plain_takes, plain_again, checked_takes, checked_again, text_takes, text_again}

pub name_takes : (version : Version) (bytes : List ℕ) (t : List ℕ × List ℕ) → IsBytes bytes → name_at version bytes ≡ Ok t → Takes bytes (text_bytes t.0) t.1 × IsNameIn version t.0
unfolding name_at
name_takes version bytes t fits e =
    let a = checked_takes 1 (λ k. leb 1 k && leb k (longest_name version)) bytes _ t fits e in
    let b = text_takes is_name_byte a.0.0 a.0.1 t a.1.rest_fits a.4 in
    let count = and_parts (leb 1 a.0.0) (leb a.0.0 (longest_name version)) a.3 in
    let low : 1 ≤ a.0.0 = leb-true _ _ count.0 in
    let high : a.0.0 ≤ longest_name version = leb-true _ _ count.1 in
    let first : Takes bytes (number_bytes 1 (length t.0)) a.0.1 = rw b.1 a.1 in
    (Takes-then bytes (number_bytes 1 (length t.0)) a.0.1 t.0 t.1 first b.0, (record { some = omega (arith, b.1, low); short = omega (arith, b.1, high, names_at_most version); letters = b.2 }, omega (arith, b.1, high)))

pub name_again : (version : Version) (name rest : List ℕ) → IsNameIn version name → name_at version (text_bytes name ++ rest) ≡ Ok (name, rest)
unfolding name_at
name_again version name rest h =
    let regrouped : text_bytes name ++ rest ≡ number_bytes 1 (length name) ++ (name ++ rest) = append_assoc (number_bytes 1 (length name)) name rest in
    let passes : (leb 1 (length name) && leb (length name) (longest_name version)) ≡ true = and_from _ _ (le-leb _ _ h.0.some) (le-leb _ _ h.1) in
    ap (name_at version) regrouped ∙ checked_again 1 (λ k. leb 1 k && leb k (longest_name version)) (length name) (name ++ rest) (λ k. text_at is_name_byte k.0 k.1) (let s = h.0.short in omega arith) passes ∙ text_again is_name_byte name rest h.0.letters

pub value_takes : (bytes : List ℕ) (t : List ℕ × List ℕ) → IsBytes bytes → value_at bytes ≡ Ok t → Takes bytes (text_bytes t.0) t.1 × IsValue t.0
unfolding value_at
value_takes bytes t fits e =
    let a = checked_takes 1 (λ k. leb k 64) bytes _ t fits e in
    let b = text_takes is_value_byte a.0.0 a.0.1 t a.1.rest_fits a.4 in
    let high : a.0.0 ≤ 64 = leb-true _ _ a.3 in
    let first : Takes bytes (number_bytes 1 (length t.0)) a.0.1 = rw b.1 a.1 in
    (Takes-then bytes (number_bytes 1 (length t.0)) a.0.1 t.0 t.1 first b.0, record { short = omega (arith, b.1, high); letters = b.2 })

pub value_again : (value rest : List ℕ) → IsValue value → value_at (text_bytes value ++ rest) ≡ Ok (value, rest)
unfolding value_at
value_again value rest h =
    let regrouped : text_bytes value ++ rest ≡ number_bytes 1 (length value) ++ (value ++ rest) = append_assoc (number_bytes 1 (length value)) value rest in
    let passes : leb (length value) 64 ≡ true = le-leb _ _ h.short in
    ap value_at regrouped ∙ checked_again 1 (λ k. leb k 64) (length value) (value ++ rest) (λ k. text_at is_value_byte k.0 k.1) (let s = h.short in omega arith) passes ∙ text_again is_value_byte value rest h.letters

-- a test that chose
pub chosen : {A : Type 0} (b : Bool) (x y z : A) → cond b x y ≡ z → ((b ≡ true) × (x ≡ z)) ⊎ ((b ≡ false) × (y ≡ z))
chosen true x y z e = inl (refl, e)
chosen false x y z e = inr (refl, e)

-- what was read behind a name
record Behind (shape : Shape) (bytes : List ℕ) (o : Operand) (rest : List ℕ) : Type 0 where
  taken : Takes bytes (operand_bytes o) rest
  lawful : IsLawfulOperand o
  shaped : operand_shape o ≡ shape

operand_takes : (shape : Shape) (bytes : List ℕ) (y : Operand × List ℕ) → IsBytes bytes → operand_at shape bytes ≡ Ok y → Behind shape bytes y.0 y.1
unfolding operand_at
operand_takes Bare bytes y fits e =
    let made : Operand × List ℕ = (Nothing, bytes) in
    subst (λ (z : Operand × List ℕ). Behind Bare bytes z.0 z.1) (ok_is made y e) (record { taken = record { parts = refl; rest_fits = fits }; lawful = tt; shaped = refl })
operand_takes Valued bytes y fits e =
    let a = bind_ok (value_at bytes) (λ (v : List ℕ × List ℕ). Ok (Value v.0, v.1)) y e in
    let t = value_takes bytes a.0 fits a.1 in
    let made : Operand × List ℕ = (Value a.0.0, a.0.1) in
    subst (λ (z : Operand × List ℕ). Behind Valued bytes z.0 z.1) (ok_is made y a.2) (record { taken = t.0; lawful = t.1; shaped = refl })
operand_takes Owned bytes y fits e =
    let a = plain_takes 4 bytes (λ (o : ℕ × List ℕ). Ok (Owner o.0, o.1)) y fits e in
    let made : Operand × List ℕ = (Owner a.0.0, a.0.1) in
    subst (λ (z : Operand × List ℕ). Behind Owned bytes z.0 z.1) (ok_is made y a.3) (record { taken = a.1; lawful = omega (arith, a.2); shaped = refl })

operand_again : (o : Operand) (rest : List ℕ) → IsLawfulOperand o → operand_at (operand_shape o) (operand_bytes o ++ rest) ≡ Ok (o, rest)
unfolding operand_at
operand_again Nothing rest h = refl
operand_again (Value v) rest h = rw (value_again v rest h) refl
operand_again (Owner p) rest h = plain_again 4 p rest (λ (o : ℕ × List ℕ). Ok (Owner o.0, o.1)) (omega (arith, h))

-- an operation that was made of the parts that were read
op_made : (version : Version) (bytes : List ℕ) (byte : ℕ) (k : OpKind) (n : List ℕ) (o : Operand) (rest : List ℕ) → op_byte k ≡ byte → operand_shape o ≡ op_shape k → Takes bytes (number_bytes 1 byte ++ (text_bytes n ++ operand_bytes o)) rest → IsNameIn version n → IsLawfulOperand o → byte ≤ operations version → Takes bytes (op_bytes (op_of k n o)) rest × IsLawfulOpIn version (op_of k n o)
unfolding op_bytes
op_made version bytes byte k n o rest is shaped taken name lawful known =
    let kind : op_kind (op_of k n o) ≡ k = kind_of_made k n o in
    let named : op_name (op_of k n o) ≡ n = name_of_made k n o in
    let operand : op_operand (op_of k n o) ≡ o = operand_of_made k n o shaped in
    (rw (kind, named, operand, is) taken, record { name = rw named name; operand = rw operand lawful; known = rw (kind, is) known })

pub op_takes : (version : Version) (bytes : List ℕ) (y : Op × List ℕ) → IsBytes bytes → op_at version bytes ≡ Ok y → Takes bytes (op_bytes y.0) y.1 × IsLawfulOpIn version y.0
unfolding op_at
op_takes version bytes y fits e =
    let a = checked_takes 1 (λ k. leb 1 k && leb k (operations version)) bytes _ y fits e in
    let b = bind_ok (name_at version a.0.1) _ y a.4 in
    let n = name_takes version a.0.1 b.0 a.1.rest_fits b.1 in
    let range = and_parts (leb 1 a.0.0) (leb a.0.0 (operations version)) a.3 in
    let low : 1 ≤ a.0.0 = leb-true _ _ range.0 in
    let high : a.0.0 ≤ operations version = leb-true _ _ range.1 in
    let most : a.0.0 ≤ length op_kinds = omega (arith, high, operations_at_most version) in
    let o = bind_ok (operand_at (op_shape (op_kind_of a.0.0)) b.0.1) _ y b.2 in
    let w = operand_takes (op_shape (op_kind_of a.0.0)) b.0.1 o.0 n.0.rest_fits o.1 in
    let tail = Takes-then a.0.1 (text_bytes b.0.0) b.0.1 (operand_bytes o.0.0) o.0.1 n.0 w.taken in
    let whole = Takes-then bytes (number_bytes 1 a.0.0) a.0.1 (text_bytes b.0.0 ++ operand_bytes o.0.0) o.0.1 a.1 tail in
    let made : Op × List ℕ = (op_of (op_kind_of a.0.0) b.0.0 o.0.0, o.0.1) in
    subst (λ (z : Op × List ℕ). Takes bytes (op_bytes z.0) z.1 × IsLawfulOpIn version z.0) (ok_is made y o.2)
    (op_made version bytes a.0.0 (op_kind_of a.0.0) b.0.0 o.0.0 o.0.1 (byte_again a.0.0 low most) w.shaped whole n.1 w.lawful high)

-- the operation of a kind and a name, once what stands behind the name was read
abbrev with_operand : OpKind → List ℕ → Operand × List ℕ → Reading Op
with_operand k name o = Ok (op_of k name o.0, o.1)

-- what stands behind the name of an operation is read again, and makes the operation
behind_again : (op : Op) (rest : List ℕ) → IsLawfulOperand (op_operand op) → (operand_at (op_shape (op_kind_of (op_byte (op_kind op)))) (operand_bytes (op_operand op) ++ rest) >>= with_operand (op_kind_of (op_byte (op_kind op))) (op_name op)) ≡ Ok (op, rest)
behind_again op rest h =
    rw (kind_again (op_kind op), ← op_shaped op, operand_again (op_operand op) rest h) (ap (λ (o : Op). Ok (o, rest)) (op_of_parts op))

pub op_again : (version : Version) (op : Op) (rest : List ℕ) → IsLawfulOpIn version op → op_at version (op_bytes op ++ rest) ≡ Ok (op, rest)
unfolding op_at op_bytes
op_again version op rest h =
    let byte : ℕ = op_byte (op_kind op) in
    let behind : List ℕ = operand_bytes (op_operand op) in
    let tail : List ℕ = text_bytes (op_name op) ++ (behind ++ rest) in
    let regrouped : (number_bytes 1 byte ++ (text_bytes (op_name op) ++ behind)) ++ rest ≡ number_bytes 1 byte ++ tail =
    append_assoc (number_bytes 1 byte) (text_bytes (op_name op) ++ behind) rest ∙ ap (λ (t : List ℕ). number_bytes 1 byte ++ t) (append_assoc (text_bytes (op_name op)) behind rest) in
    let high = h.known in
    let passes : (leb 1 byte && leb byte (operations version)) ≡ true = and_from _ _ (le-leb _ _ (byte_first (op_kind op))) (le-leb _ _ high) in
    ap (op_at version) regrouped
    ∙ checked_again 1 (λ k. leb 1 k && leb k (operations version)) byte tail (λ kind. name_at version kind.1 >>= λ name. operand_at (op_shape (op_kind_of kind.0)) name.1 >>= λ operand. Ok (op_of (op_kind_of kind.0) name.0 operand.0, operand.1)) (omega (arith, operations_at_most version, high)) passes
    ∙ rw (name_again version (op_name op) (behind ++ rest) h.name) (behind_again op rest h.operand)

pub command_takes : (version : Version) (bytes : List ℕ) (y : Command × List ℕ) → IsBytes bytes → command_at version bytes ≡ Ok y → Takes bytes (command_bytes y.0) y.1 × IsLawfulCommandIn version y.0
unfolding command_at command_bytes
command_takes version bytes y fits e =
    let a = plain_takes 4 bytes _ y fits e in
    let b = plain_takes 8 a.0.1 _ y a.1.rest_fits a.3 in
    let d = bind_ok (op_at version b.0.1) _ y b.3 in
    let o = op_takes version b.0.1 d.0 b.1.rest_fits d.1 in
    let made : Command × List ℕ = (record { request = record { client = a.0.0; seq = b.0.0 }; op = d.0.0 }, d.0.1) in
    let tail = Takes-then a.0.1 (number_bytes 8 b.0.0) b.0.1 (op_bytes d.0.0) d.0.1 b.1 o.0 in
    let whole = Takes-then bytes (number_bytes 4 a.0.0) a.0.1 (number_bytes 8 b.0.0 ++ op_bytes d.0.0) d.0.1 a.1 tail in
    subst (λ (z : Command × List ℕ). Takes bytes (number_bytes 4 z.0.request.client ++ (number_bytes 8 z.0.request.seq ++ op_bytes z.0.op)) z.1 × IsLawfulCommandIn version z.0) (ok_is made y d.2) (whole, record { client = omega (arith, a.2); seq = omega (arith, b.2); op = o.1 })

pub command_again : (version : Version) (c : Command) (rest : List ℕ) → IsLawfulCommandIn version c → command_at version (command_bytes c ++ rest) ≡ Ok (c, rest)
unfolding command_at command_bytes
command_again version c rest h =
    let tail : List ℕ = number_bytes 8 c.request.seq ++ (op_bytes c.op ++ rest) in
    let regrouped : (number_bytes 4 c.request.client ++ (number_bytes 8 c.request.seq ++ op_bytes c.op)) ++ rest ≡ number_bytes 4 c.request.client ++ tail =
    append_assoc (number_bytes 4 c.request.client) (number_bytes 8 c.request.seq ++ op_bytes c.op) rest ∙ ap (λ (t : List ℕ). number_bytes 4 c.request.client ++ t) (append_assoc (number_bytes 8 c.request.seq) (op_bytes c.op) rest) in
    let client = h.client in
    let seq = h.seq in
    ap (command_at version) regrouped
    ∙ plain_again 4 c.request.client tail _ (omega arith)
    ∙ plain_again 8 c.request.seq (op_bytes c.op ++ rest) _ (omega arith)
    ∙ rw (op_again version c.op rest h.op) refl
