-- The tests for equal requests, operations and commands pass exactly for equal ones.
use Rattle.std.proofs.Common.{◌≡◌, ℕ, true, ◌==◌, ◌&&◌, List, refl, ap, sym, ◌∙◌, eqb-true, eq-eqb, bytes_eq}
use Rattle.std.proofs.lemmas.Bool.{false≢true, and_parts, and_from}
use Rattle.std.proofs.lemmas.Slice.Eq.{bytes_eq-Decides}
use Rattle.rr_types.specs.declared.command.RequestNo.{RequestNo}
use Rattle.rr_types.specs.declared.command.Op.{Op}
use Rattle.rr_types.specs.declared.command.OpKind.{OpKind}
use Rattle.rr_types.specs.declared.command.Operand.{Operand}
use Rattle.rr_types.specs.declared.command.Operand.TheVariants.{Nothing, Value, Owner}
use Rattle.rr_types.specs.declared.command.Command.{Command}
use Rattle.rr_types.specs.Registry.{is_same_request}
use Rattle.rr_types.specs.Commands.{op_byte, op_kind_of, op_kind, op_name, op_operand, op_of, is_same_operand, is_same_op, is_same_command}
use Rattle.rr_types.proofs.PartLemmas.{op_again, kind_again}

same_text : (m n : List ℕ) → bytes_eq m n ≡ true → m ≡ n
same_text m n t = (bytes_eq-Decides m n).0 t

text_same : (m : List ℕ) → bytes_eq m m ≡ true
text_same m = (bytes_eq-Decides m m).1 refl

-- two request numbers that are the same are equal
pub same_request : (p q : RequestNo) → is_same_request p q ≡ true → p ≡ q
same_request p q t =
    let h : ((p.client == q.client) ≡ true) × ((p.seq == q.seq) ≡ true) = and_parts (p.client == q.client) (p.seq == q.seq) t in
    let a : p.client ≡ q.client = eqb-true p.client q.client h.0 in
    let b : p.seq ≡ q.seq = eqb-true p.seq q.seq h.1 in
    λ i. record { client = a i; seq = b i }

pub request_same : (p : RequestNo) → is_same_request p p ≡ true
request_same p = and_from (p.client == p.client) (p.seq == p.seq) (eq-eqb p.client p.client refl) (eq-eqb p.seq p.seq refl)

same_kind : (k l : OpKind) → op_byte k ≡ op_byte l → k ≡ l
same_kind k l e = sym (kind_again k) ∙ ap op_kind_of e ∙ kind_again l

same_operand : (a b : Operand) → is_same_operand a b ≡ true → a ≡ b
same_operand Nothing Nothing t = refl
same_operand (Value v) (Value w) t = ap Value (same_text v w t)
same_operand (Owner o) (Owner p) t = ap Owner (eqb-true o p t)
same_operand a b t = absurd (false≢true t)

operand_same : (a : Operand) → is_same_operand a a ≡ true
operand_same Nothing = refl
operand_same (Value v) = text_same v
operand_same (Owner o) = eq-eqb o o refl

-- two operations whose parts are the same are equal
pub same_op : (a b : Op) → is_same_op a b ≡ true → a ≡ b
same_op a b t =
    let h : ((op_byte (op_kind a) == op_byte (op_kind b)) ≡ true) × ((bytes_eq (op_name a) (op_name b) && is_same_operand (op_operand a) (op_operand b)) ≡ true) = and_parts (op_byte (op_kind a) == op_byte (op_kind b)) (bytes_eq (op_name a) (op_name b) && is_same_operand (op_operand a) (op_operand b)) t in
    let g : (bytes_eq (op_name a) (op_name b) ≡ true) × (is_same_operand (op_operand a) (op_operand b) ≡ true) = and_parts (bytes_eq (op_name a) (op_name b)) (is_same_operand (op_operand a) (op_operand b)) h.1 in
    let kind : op_kind a ≡ op_kind b = same_kind (op_kind a) (op_kind b) (eqb-true (op_byte (op_kind a)) (op_byte (op_kind b)) h.0) in
    let name : op_name a ≡ op_name b = same_text (op_name a) (op_name b) g.0 in
    let operand : op_operand a ≡ op_operand b = same_operand (op_operand a) (op_operand b) g.1 in
    let made : op_of (op_kind a) (op_name a) (op_operand a) ≡ op_of (op_kind b) (op_name b) (op_operand b) = rw (kind, name, operand) refl in
    sym (op_again a) ∙ made ∙ op_again b

pub op_same : (a : Op) → is_same_op a a ≡ true
op_same a =
    and_from (op_byte (op_kind a) == op_byte (op_kind a)) (bytes_eq (op_name a) (op_name a) && is_same_operand (op_operand a) (op_operand a)) (eq-eqb (op_byte (op_kind a)) (op_byte (op_kind a)) refl)
    (and_from (bytes_eq (op_name a) (op_name a)) (is_same_operand (op_operand a) (op_operand a)) (text_same (op_name a)) (operand_same (op_operand a)))

-- two commands that are the same are equal
pub same_command : (c d : Command) → is_same_command c d ≡ true → c ≡ d
same_command c d t =
    let h : (is_same_request c.request d.request ≡ true) × (is_same_op c.op d.op ≡ true) = and_parts (is_same_request c.request d.request) (is_same_op c.op d.op) t in
    let a : c.request ≡ d.request = same_request c.request d.request h.0 in
    let b : c.op ≡ d.op = same_op c.op d.op h.1 in
    λ i. record { request = a i; op = b i }

pub command_same : (c : Command) → is_same_command c c ≡ true
command_same c = and_from (is_same_request c.request c.request) (is_same_op c.op c.op) (request_same c.request) (op_same c.op)
