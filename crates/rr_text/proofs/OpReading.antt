-- Operations and commands: reading gives what was printed, and what is read is printed so.
use Rattle.std.proofs.Common.{◌≡◌, ℕ, ◌<◌, List, [], ◌∷◌, ◌++◌, length, Option, None, Some, decimal, refl, ap, subst, ◌∙◌, sym, arith, inl, inr}
use Rattle.std.specs.Str.{bytes_eq}
use Rattle.std.proofs.lemmas.Option.{same_Some}
use Rattle.rr_types.specs.Names.{IsName, IsValue}
use Rattle.rr_types.specs.declared.command.Op.{Op}
use Rattle.rr_types.specs.declared.command.OpKind.{OpKind}
use Rattle.rr_types.specs.declared.command.Shape.{Shape}
use Rattle.rr_types.specs.declared.command.Shape.TheVariants.{Bare, Valued, Owned}
use Rattle.rr_types.specs.declared.command.Operand.{Operand}
use Rattle.rr_types.specs.declared.command.Operand.TheVariants.{Nothing, Value, Owner}
use Rattle.rr_types.specs.declared.command.Command.{Command}
use Rattle.rr_types.specs.Commands.{find_by, op_kinds, op_word, op_shape, op_kind, op_name, op_operand, operand_shape, op_of}
use Rattle.rr_types.proofs.PartLemmas.{op_again as op_of_parts, op_shaped, kind_of_made, name_of_made, operand_of_made, word_again, word_is_plain}
use Rattle.rr_text.specs.Words.{spaced, value_words, operand_words, op_words, IsOperand, IsOp, IsCommand}
use Rattle.rr_text.specs.Reading.{◌>>=◌, cut_at, name_at, small_at, number_at, filled_value_at, op_kind_at, named_from, named_at, shaped_at, target_at, op_at, submitted_at}
use Rattle.rr_text.proofs.CutLemmas.{AtLeast, bind_some, cut_again, cut_takes, cut_nowhere, plain_by_test}
use Rattle.rr_text.proofs.NumberLemmas.{number_again, number_takes, small_again, small_takes, decimal_plain}
use Rattle.rr_text.proofs.WordReading.{chosen, same_text, name_again, name_takes, name_plain, value_again, value_takes}

-- the thing that was found has this text
pub find_takes : {K : Type 0} (text : K → List ℕ) (w : List ℕ) (ks : List K) (k : K) → find_by text w ks ≡ Some k → w ≡ text k
find_takes text w [] k e = absurd cc
find_takes text w (j ∷ ks) k e =
    elim (chosen (bytes_eq w (text j)) (Some j) (find_by text w ks) (Some k) e) [
      | inl c ↦ same_text w (text j) c.0 ∙ ap text (same_Some j k c.1)
      | inr c ↦ find_takes text w ks k c.1
    ]

value_of_some : (v : List ℕ) → 0 < length v → value_words v ≡ v ∷ []
value_of_some [] lt = absurd (omega arith)
value_of_some (b ∷ v) lt = refl

-- a name and its value were read from their words
abbrev IsNamed : List ℕ → List ℕ → List ℕ → Type 0
IsNamed text x v = (spaced (x ∷ value_words v) ≡ text) × IsName x × IsValue v

abbrev some_of : List ℕ → Option (List ℕ)
some_of v = Some v

empty_value : IsValue []
empty_value = record { short = omega arith; letters = refl }

named_from_takes : (text : List ℕ) (o : Option (List ℕ × List ℕ)) (y : List ℕ × List ℕ) → cut_at 32 text ≡ o → named_from text o ≡ Some y → IsNamed text y.0 y.1
named_from_takes text None y p e =
    let r = bind_some (name_at text) (λ x. some_of [] >>= λ v. Some (x, v)) y e in
    let t = name_takes text r.0 r.1 in
    let made : List ℕ × List ℕ = (r.0, []) in
    subst (λ (z : List ℕ × List ℕ). IsNamed text z.0 z.1) (same_Some made y r.2) (t.0, t.1, empty_value)
named_from_takes text (Some w) y p e =
    let r = bind_some (name_at w.0) (λ x. filled_value_at w.1 >>= λ v. Some (x, v)) y e in
    let q = bind_some (filled_value_at w.1) (λ v. Some (r.0, v)) y r.2 in
    let t = name_takes w.0 r.0 r.1 in
    let u = value_takes w.1 q.0 q.1 in
    let cut : text ≡ w.0 ++ 32 ∷ w.1 = cut_takes 32 text w.0 w.1 p in
    let made : List ℕ × List ℕ = (r.0, q.0) in
    let is : spaced (r.0 ∷ value_words q.0) ≡ text = ap (λ (ws : List (List ℕ)). spaced (r.0 ∷ ws)) (value_of_some q.0 u.1) ∙ ap (λ (x : List ℕ). x ++ 32 ∷ q.0) t.0 ∙ ap (λ (v : List ℕ). w.0 ++ 32 ∷ v) u.0 ∙ sym cut in
    subst (λ (z : List ℕ × List ℕ). IsNamed text z.0 z.1) (same_Some made y q.2) (is, t.1, u.2)

named_takes : (text : List ℕ) (y : List ℕ × List ℕ) → named_at text ≡ Some y → IsNamed text y.0 y.1
named_takes text y e = named_from_takes text (cut_at 32 text) y refl e

named_again : (x v : List ℕ) → IsName x → IsValue v → named_at (spaced (x ∷ value_words v)) ≡ Some (x, v)
named_again x [] name value = rw (cut_nowhere 32 33 x (omega arith) (name_plain x name), name_again x name) refl
named_again x (b ∷ v) name value = rw (cut_again 32 33 x (b ∷ v) (omega arith) (name_plain x name), name_again x name, value_again b v value) refl

-- the words of an operation of this kind, behind its own, are this text
abbrev IsRead : OpKind → List ℕ → Op → Type 0
IsRead k text op = (spaced (op_words op) ≡ op_word k ++ 32 ∷ text) × IsOp op

made_read : (k : OpKind) (x : List ℕ) (o : Operand) (text : List ℕ) → operand_shape o ≡ op_shape k → spaced (x ∷ operand_words o) ≡ text → IsName x → IsOperand o → IsRead k text (op_of k x o)
made_read k x o text shaped is name fits =
    let kind : op_kind (op_of k x o) ≡ k = kind_of_made k x o in
    let named : op_name (op_of k x o) ≡ x = name_of_made k x o in
    let operand : op_operand (op_of k x o) ≡ o = operand_of_made k x o shaped in
    let words : op_words (op_of k x o) ≡ op_word k ∷ x ∷ operand_words o = rw (kind, named, operand) refl in
    (ap spaced words ∙ ap (λ (w : List ℕ). op_word k ++ 32 ∷ w) is, (rw named name, rw operand fits))

shaped_takes : (k : OpKind) (s : Shape) (text : List ℕ) (op : Op) → op_shape k ≡ s → shaped_at k s text ≡ Some op → IsRead k text op
shaped_takes k Bare text op s e =
    let r = bind_some (name_at text) (λ x. Some (op_of k x Nothing)) op e in
    let t = name_takes text r.0 r.1 in
    subst (IsRead k text) (same_Some _ op r.2) (made_read k r.0 Nothing text (sym s) t.0 t.1 tt)
shaped_takes k Valued text op s e =
    let r = bind_some (named_at text) (λ x. Some (op_of k x.0 (Value x.1))) op e in
    let t = named_takes text r.0 r.1 in
    subst (IsRead k text) (same_Some _ op r.2) (made_read k r.0.0 (Value r.0.1) text (sym s) t.0 t.1 t.2)
shaped_takes k Owned text op s e =
    let w = bind_some (cut_at 32 text) (λ w. name_at w.0 >>= λ x. small_at w.1 >>= λ o. Some (op_of k x (Owner o))) op e in
    let x = bind_some (name_at w.0.0) (λ x. small_at w.0.1 >>= λ o. Some (op_of k x (Owner o))) op w.2 in
    let o = bind_some (small_at w.0.1) (λ o. Some (op_of k x.0 (Owner o))) op x.2 in
    let t = name_takes w.0.0 x.0 x.1 in
    let u = small_takes w.0.1 o.0 o.1 in
    let cut : text ≡ w.0.0 ++ 32 ∷ w.0.1 = cut_takes 32 text w.0.0 w.0.1 w.1 in
    let is : x.0 ++ 32 ∷ decimal o.0 ≡ text = ap (λ (y : List ℕ). y ++ 32 ∷ decimal o.0) t.0 ∙ ap (λ (y : List ℕ). w.0.0 ++ 32 ∷ y) u.0 ∙ sym cut in
    subst (IsRead k text) (same_Some _ op o.2) (made_read k x.0 (Owner o.0) text (sym s) is t.1 u.1)

-- what is read as an operation is printed so
pub op_takes : (text : List ℕ) (op : Op) → op_at text ≡ Some op → (spaced (op_words op) ≡ text) × IsOp op
op_takes text op e =
    let w = bind_some (cut_at 32 text) (λ w. op_kind_at w.0 >>= λ k. target_at k w.1) op e in
    let k = bind_some (op_kind_at w.0.0) (λ k. target_at k w.0.1) op w.2 in
    let cut : text ≡ w.0.0 ++ 32 ∷ w.0.1 = cut_takes 32 text w.0.0 w.0.1 w.1 in
    let word : w.0.0 ≡ op_word k.0 = find_takes op_word w.0.0 op_kinds k.0 k.1 in
    let t = shaped_takes k.0 (op_shape k.0) w.0.1 op refl k.2 in
    (t.0 ∙ ap (λ (y : List ℕ). y ++ 32 ∷ w.0.1) (sym word) ∙ sym cut, t.1)

pub word_plain : (k : OpKind) → AtLeast 33 (op_word k)
word_plain k = plain_by_test (op_word k) (word_is_plain k)

op_from : (k : OpKind) (text : List ℕ) (op : Op) → target_at k text ≡ Some op → op_at (op_word k ++ 32 ∷ text) ≡ Some op
op_from k text op e = rw (cut_again 32 33 (op_word k) text (omega arith) (word_plain k), word_again k) e

behind_again : (k : OpKind) (x : List ℕ) (o : Operand) → IsName x → IsOperand o → shaped_at k (operand_shape o) (spaced (x ∷ operand_words o)) ≡ Some (op_of k x o)
behind_again k x Nothing name h = rw (name_again x name) refl
behind_again k x (Value v) name h = rw (named_again x v name h) refl
behind_again k x (Owner p) name h = rw (cut_again 32 33 x (decimal p) (omega arith) (name_plain x name), name_again x name, small_again p h) refl

-- an operation that is printed is read again
pub op_again : (op : Op) → IsOp op → op_at (spaced (op_words op)) ≡ Some op
op_again op h =
    let behind = behind_again (op_kind op) (op_name op) (op_operand op) h.0 h.1 in
    op_from (op_kind op) (spaced (op_name op ∷ operand_words (op_operand op))) op
    (rw (← op_shaped op) (behind ∙ ap (λ (o : Op). Some o) (op_of_parts op)))

-- the words of a command behind the node
abbrev pub submitted_text : Command → List ℕ
submitted_text c = decimal c.request.client ++ 32 ∷ (decimal c.request.seq ++ 32 ∷ spaced (op_words c.op))

pub submitted_again : (c : Command) → IsCommand c → submitted_at (submitted_text c) ≡ Some c
submitted_again c h =
    rw (cut_again 32 33 (decimal c.request.client) (decimal c.request.seq ++ 32 ∷ spaced (op_words c.op)) (omega arith) (decimal_plain c.request.client (omega (arith, h.client))), small_again c.request.client h.client, cut_again 32 33 (decimal c.request.seq) (spaced (op_words c.op)) (omega arith) (decimal_plain c.request.seq h.seq), number_again c.request.seq h.seq, op_again c.op h.op) refl

pub submitted_takes : (text : List ℕ) (c : Command) → submitted_at text ≡ Some c → (submitted_text c ≡ text) × IsCommand c
submitted_takes text c e =
    let w = bind_some (cut_at 32 text) (λ w. small_at w.0 >>= λ client. cut_at 32 w.1 >>= λ s. number_at s.0 >>= λ seq. op_at s.1 >>= λ op. Some (record { request = record { client = client; seq = seq }; op = op })) c e in
    let client = bind_some (small_at w.0.0) (λ client. cut_at 32 w.0.1 >>= λ s. number_at s.0 >>= λ seq. op_at s.1 >>= λ op. Some (record { request = record { client = client; seq = seq }; op = op })) c w.2 in
    let v = bind_some (cut_at 32 w.0.1) (λ s. number_at s.0 >>= λ seq. op_at s.1 >>= λ op. Some (record { request = record { client = client.0; seq = seq }; op = op })) c client.2 in
    let seq = bind_some (number_at v.0.0) (λ seq. op_at v.0.1 >>= λ op. Some (record { request = record { client = client.0; seq = seq }; op = op })) c v.2 in
    let op = bind_some (op_at v.0.1) (λ op. Some (record { request = record { client = client.0; seq = seq.0 }; op = op })) c seq.2 in
    let first = small_takes w.0.0 client.0 client.1 in
    let second = number_takes v.0.0 seq.0 seq.1 in
    let third = op_takes v.0.1 op.0 op.1 in
    let cut_1 : text ≡ w.0.0 ++ 32 ∷ w.0.1 = cut_takes 32 text w.0.0 w.0.1 w.1 in
    let cut_2 : w.0.1 ≡ v.0.0 ++ 32 ∷ v.0.1 = cut_takes 32 w.0.1 v.0.0 v.0.1 v.1 in
    let made : Command = record { request = record { client = client.0; seq = seq.0 }; op = op.0 } in
    let inner : decimal seq.0 ++ 32 ∷ spaced (op_words op.0) ≡ w.0.1 = ap (λ (y : List ℕ). y ++ 32 ∷ spaced (op_words op.0)) second.0 ∙ ap (λ (y : List ℕ). v.0.0 ++ 32 ∷ y) third.0 ∙ sym cut_2 in
    let is : submitted_text made ≡ text = ap (λ (y : List ℕ). y ++ 32 ∷ (decimal seq.0 ++ 32 ∷ spaced (op_words op.0))) first.0 ∙ ap (λ (y : List ℕ). w.0.0 ++ 32 ∷ y) inner ∙ sym cut_1 in
    let fits : IsCommand made = record { client = first.1; seq = second.1; op = third.1 } in
    subst (λ (d : Command). (submitted_text d ≡ text) × IsCommand d) (same_Some made c op.2) (is, fits)
