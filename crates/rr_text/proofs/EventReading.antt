-- Events: reading gives what was printed, and what is read is printed so.
use Rattle.std.proofs.Common.{◌≡◌, ℕ, ◌+◌, ◌^◌, ◌<◌, ◌≤◌, List, [], ◌∷◌, ◌++◌, get_or, Option, None, Some, codes, decimal, refl, ap, subst, ◌∙◌, sym, arith}
use Rattle.std.specs.Prelude.{IfSome}
use Rattle.std.proofs.lemmas.Option.{same_Some}
use Rattle.std.proofs.lemmas.List.{append_assoc}
use Rattle.std.proofs.lemmas.Fmt.{decimal_digit}
use Rattle.rr_types.specs.Names.{IsName, IsValue}
use Rattle.rr_types.specs.declared.command.Op.{Op}
use Rattle.rr_types.specs.declared.command.Operand.{Operand}
use Rattle.rr_types.specs.declared.command.Operand.TheVariants.{Nothing, Value, Owner}
use Rattle.rr_types.specs.Commands.{op_word, op_kind, op_name, op_operand}
use Rattle.rr_types.specs.declared.command.Command.{Command}
use Rattle.rr_types.specs.declared.input.Input.TheVariants as input
use Rattle.rr_types.specs.declared.event.NodeEvent.{NodeEvent}
use Rattle.rr_types.specs.declared.event.NodeEvent.TheVariants as node
use Rattle.rr_text.specs.declared.event.Event.{Event}
use Rattle.rr_text.specs.declared.event.Happening.{Happening}
use Rattle.rr_text.specs.declared.event.Happening.TheVariants as happening
use Rattle.rr_text.specs.declared.kind.EventKind.{EventKind}
use Rattle.rr_text.specs.declared.kind.EventKind.TheVariants.{Submit, Hear, Suspect, Tick, Advance, Take, Device, Fail, Mark, Send, Ack, Snap, Crash, Restart}
use Rattle.rr_text.specs.Words.{spaced, value_words, operand_words, op_words, set_text, fill_text, IsOperand, IsOp, IsCommand, IsFill}
use Rattle.rr_text.specs.Scheduled.{IsInRange, IsEvent}
use Rattle.rr_text.specs.ScheduleTexts.{field_words, event_text, event_line}
use Rattle.rr_text.specs.Reading.{◌>>=◌, cut_at, node_at, small_at, set_at, fill_at, submitted_at, keyword_text, keyword_at, first_node_at, cuts_at, plain_at, about_at, said_at, fields_at, event_at}
use Rattle.rr_text.specs.Events.{event_of, kind_at_node, kind_of}
use Rattle.rr_text.proofs.CutLemmas.{AtLeast, AtLeast-append, bind_some, cut_again, cut_takes, plain_by_test}
use Rattle.rr_text.proofs.NumberLemmas.{node_again, node_takes, small_again, small_takes, decimal_plain}
use Rattle.rr_text.proofs.WordReading.{AtLeast-weaken, name_plain, value_plain, set_again, set_takes, set_plain, fill_again, fill_takes, fill_plain}
use Rattle.rr_text.proofs.OpReading.{find_takes, word_plain, submitted_text, submitted_again, submitted_takes}

pub keyword_takes : (w : List ℕ) (k : EventKind) → keyword_at w ≡ Some k → w ≡ keyword_text k
keyword_takes w k e = find_takes keyword_text w (Submit ∷ Hear ∷ Suspect ∷ Tick ∷ Advance ∷ Take ∷ Device ∷ Fail ∷ Mark ∷ Send ∷ Ack ∷ Snap ∷ Crash ∷ Restart ∷ []) k e

pub keyword_again : (k : EventKind) → keyword_at (keyword_text k) ≡ Some k
keyword_again Submit = refl
keyword_again Hear = refl
keyword_again Suspect = refl
keyword_again Tick = refl
keyword_again Advance = refl
keyword_again Take = refl
keyword_again Device = refl
keyword_again Fail = refl
keyword_again Mark = refl
keyword_again Send = refl
keyword_again Ack = refl
keyword_again Snap = refl
keyword_again Crash = refl
keyword_again Restart = refl

pub keyword_plain : (k : EventKind) → AtLeast 33 (keyword_text k)
keyword_plain Submit = plain_by_test (codes "submit") refl
keyword_plain Hear = plain_by_test (codes "hear") refl
keyword_plain Suspect = plain_by_test (codes "suspect") refl
keyword_plain Tick = plain_by_test (codes "tick") refl
keyword_plain Advance = plain_by_test (codes "advance") refl
keyword_plain Take = plain_by_test (codes "take") refl
keyword_plain Device = plain_by_test (codes "dev") refl
keyword_plain Fail = plain_by_test (codes "fail") refl
keyword_plain Mark = plain_by_test (codes "mark") refl
keyword_plain Send = plain_by_test (codes "send") refl
keyword_plain Ack = plain_by_test (codes "ack") refl
keyword_plain Snap = plain_by_test (codes "snap") refl
keyword_plain Crash = plain_by_test (codes "crash") refl
keyword_plain Restart = plain_by_test (codes "restart") refl

node_plain : (n p : ℕ) → n ≤ 7 → p < n → AtLeast 33 (decimal p)
node_plain n p few lt = decimal_plain p (omega arith)

pub first_node_again : (n p : ℕ) (text : List ℕ) → n ≤ 7 → p < n → first_node_at n (decimal p ++ 32 ∷ text) ≡ Some (p, text)
first_node_again n p text few lt = rw (cut_again 32 33 (decimal p) text (omega arith) (node_plain n p few lt), node_again n p few lt) refl

pub first_node_takes : (n : ℕ) (text : List ℕ) (x : ℕ × List ℕ) → n ≤ 7 → first_node_at n text ≡ Some x → (decimal x.0 ++ 32 ∷ x.1 ≡ text) × (x.0 < n)
first_node_takes n text x few e =
    let w = bind_some (cut_at 32 text) (λ w. node_at n w.0 >>= λ p. Some (p, w.1)) x e in
    let p = bind_some (node_at n w.0.0) (λ p. Some (p, w.0.1)) x w.2 in
    let t = node_takes n w.0.0 p.0 few p.1 in
    let cut : text ≡ w.0.0 ++ 32 ∷ w.0.1 = cut_takes 32 text w.0.0 w.0.1 w.1 in
    let made : ℕ × List ℕ = (p.0, w.0.1) in
    subst (λ (y : ℕ × List ℕ). (decimal y.0 ++ 32 ∷ y.1 ≡ text) × (y.0 < n)) (same_Some made x p.2) (ap (λ (y : List ℕ). y ++ 32 ∷ w.0.1) t.0 ∙ sym cut, t.1)

no_value : {A : Type 0} (o : Option A) → ((x : A) → o ≡ Some x → ⊥) → o ≡ None
no_value None h = refl
no_value (Some x) h = absurd (h x refl)

-- a text that begins with a node begins with one byte and a space
pub first_node_apart : (n : ℕ) (text : List ℕ) → n ≤ 7 → ((b : ℕ) (rest : List ℕ) → text ≡ b ∷ 32 ∷ rest → ⊥) → first_node_at n text ≡ None
first_node_apart n text few apart = no_value (first_node_at n text) (λ x given.
    let t = first_node_takes n text x few given in
    let is : decimal x.0 ≡ (48 + x.0) ∷ [] = decimal_digit x.0 (omega (arith, few, t.1)) in
    apart (48 + x.0) x.1 (sym t.0 ∙ ap (λ (w : List ℕ). w ++ 32 ∷ x.1) is))

first_node_known : (n b : ℕ) (rest : List ℕ) (o : Option ℕ) → n ≤ 7 → node_at n (b ∷ []) ≡ o → first_node_at n (b ∷ 32 ∷ rest) ≡ (o >>= λ p. Some (p, rest))
first_node_known n b rest (Some p) few e =
    let t = node_takes n (b ∷ []) p few e in
    ap (λ (w : List ℕ). first_node_at n (w ++ 32 ∷ rest)) (sym t.0) ∙ first_node_again n p rest few t.1
first_node_known n b rest None few e = no_value (first_node_at n (b ∷ 32 ∷ rest)) (λ x given.
    let t = first_node_takes n (b ∷ 32 ∷ rest) x few given in
    let is : decimal x.0 ≡ (48 + x.0) ∷ [] = decimal_digit x.0 (omega (arith, few, t.1)) in
    let same : (48 + x.0) ∷ 32 ∷ x.1 ≡ b ∷ 32 ∷ rest = ap (λ (w : List ℕ). w ++ 32 ∷ x.1) (sym is) ∙ t.0 in
    let front : 48 + x.0 ≡ b = ap (λ (w : List ℕ). get_or w 0 0) same in
    let again : node_at n (b ∷ []) ≡ Some x.0 = ap (node_at n) (ap (λ c. c ∷ []) (sym front) ∙ sym is) ∙ node_again n x.0 few t.1 in
    let no : None ≡ Some x.0 = sym e ∙ again in cc)

-- where the first word is one byte, it is the node that this byte is
pub first_node_front : (n b : ℕ) (rest : List ℕ) → n ≤ 7 → first_node_at n (b ∷ 32 ∷ rest) ≡ (node_at n (b ∷ []) >>= λ p. Some (p, rest))
first_node_front n b rest few = first_node_known n b rest (node_at n (b ∷ [])) few refl

-- the words of a crash behind the node
abbrev cuts_text : ℕ × ℕ × List ℕ → List ℕ
cuts_text c = decimal c.0 ++ 32 ∷ (decimal c.1 ++ 32 ∷ fill_text c.2)

abbrev AreCuts : ℕ × ℕ × List ℕ → Type 0
AreCuts c = (c.0 < 2 ^ 32) × (c.1 < 2 ^ 32) × IsFill c.2

cuts_again : (a b : ℕ) (f : List ℕ) → a < 2 ^ 32 → b < 2 ^ 32 → IsFill f → cuts_at (decimal a ++ 32 ∷ (decimal b ++ 32 ∷ fill_text f)) ≡ Some (a, b, f)
cuts_again a b f la lb lf =
    rw (cut_again 32 33 (decimal a) (decimal b ++ 32 ∷ fill_text f) (omega arith) (decimal_plain a (omega arith)), small_again a la, cut_again 32 33 (decimal b) (fill_text f) (omega arith) (decimal_plain b (omega arith)), small_again b lb, fill_again f lf) refl

cuts_takes : (text : List ℕ) (c : ℕ × ℕ × List ℕ) → cuts_at text ≡ Some c → (cuts_text c ≡ text) × AreCuts c
cuts_takes text c e =
    let v = bind_some (cut_at 32 text) (λ a. small_at a.0 >>= λ cut_0. cut_at 32 a.1 >>= λ b. small_at b.0 >>= λ cut_1. fill_at b.1 >>= λ fill. Some (cut_0, cut_1, fill)) c e in
    let a = bind_some (small_at v.0.0) (λ cut_0. cut_at 32 v.0.1 >>= λ b. small_at b.0 >>= λ cut_1. fill_at b.1 >>= λ fill. Some (cut_0, cut_1, fill)) c v.2 in
    let w = bind_some (cut_at 32 v.0.1) (λ b. small_at b.0 >>= λ cut_1. fill_at b.1 >>= λ fill. Some (a.0, cut_1, fill)) c a.2 in
    let b = bind_some (small_at w.0.0) (λ cut_1. fill_at w.0.1 >>= λ fill. Some (a.0, cut_1, fill)) c w.2 in
    let f = bind_some (fill_at w.0.1) (λ fill. Some (a.0, b.0, fill)) c b.2 in
    let ta = small_takes v.0.0 a.0 a.1 in
    let tb = small_takes w.0.0 b.0 b.1 in
    let tf = fill_takes w.0.1 f.0 f.1 in
    let cut_1 : text ≡ v.0.0 ++ 32 ∷ v.0.1 = cut_takes 32 text v.0.0 v.0.1 v.1 in
    let cut_2 : v.0.1 ≡ w.0.0 ++ 32 ∷ w.0.1 = cut_takes 32 v.0.1 w.0.0 w.0.1 w.1 in
    let made : ℕ × ℕ × List ℕ = (a.0, b.0, f.0) in
    let inner : decimal b.0 ++ 32 ∷ fill_text f.0 ≡ v.0.1 = ap (λ (y : List ℕ). y ++ 32 ∷ fill_text f.0) tb.0 ∙ ap (λ (y : List ℕ). w.0.0 ++ 32 ∷ y) tf.0 ∙ sym cut_2 in
    let is : cuts_text made ≡ text = ap (λ (y : List ℕ). y ++ 32 ∷ (decimal b.0 ++ 32 ∷ fill_text f.0)) ta.0 ∙ ap (λ (y : List ℕ). v.0.0 ++ 32 ∷ y) inner ∙ sym cut_1 in
    subst (λ (d : ℕ × ℕ × List ℕ). (cuts_text d ≡ text) × AreCuts d) (same_Some made c f.2) (is, (ta.1, tb.1, tf.1))

-- ---- reading gives what is printed

-- an event was read from the words behind its keyword
pub record Was (n : ℕ) (k : EventKind) (text : List ℕ) (e : Event) : Type 0 where
  pub printed : event_text e ≡ keyword_text k ++ 32 ∷ text
  pub fits : IsEvent n e

-- an event of a node is of this kind, and has no words beside the node's
abbrev IsPlain : EventKind → NodeEvent ℕ → Type 0
IsPlain k event = (kind_at_node event ≡ k) × (field_words (happening.At event) ≡ []) × ((n : ℕ) → IsInRange n (happening.At event))

plain_is : (k : EventKind) → IfSome (plain_at k) (λ event. IsPlain k event)
plain_is Submit = tt
plain_is Hear = tt
plain_is Suspect = tt
plain_is Fail = tt
plain_is Crash = tt
plain_is k = (refl, refl, λ n. tt)

-- such an event has a node alone
alone : (n : ℕ) (k : EventKind) (text : List ℕ) (event : NodeEvent ℕ) (e : Event) → n ≤ 7 → IsPlain k event → (node_at n text >>= λ p. Some (event_of p event)) ≡ Some e → Was n k text e
alone n k text event e few plain given =
    let p = bind_some (node_at n text) (λ p. Some (event_of p event)) e given in
    let t = node_takes n text p.0 few p.1 in
    let is : event_of p.0 event ≡ e = same_Some (event_of p.0 event) e p.2 in
    let words = ap (λ (ws : List (List ℕ)). spaced (keyword_text (kind_at_node event) ∷ decimal p.0 ∷ ws)) plain.1 in
    let kind = ap (λ (x : EventKind). keyword_text x ++ 32 ∷ decimal p.0) plain.0 in
    record {
      printed = ap event_text (sym is) ∙ words ∙ kind ∙ ap (λ (y : List ℕ). keyword_text k ++ 32 ∷ y) t.0;
      fits = subst (λ (d : Event). IsEvent n d) is (record { node = t.1; fields = plain.2 n });
    }

-- what happens is of this kind, and the text says what it is about
record IsAbout (n : ℕ) (k : EventKind) (text : List ℕ) (what : Happening) : Type 0 where
  kind : kind_of what ≡ k
  words : (w : List ℕ) → spaced (w ∷ field_words what) ≡ w ++ 32 ∷ text
  fits : IsInRange n what

about : {A : Type 0} (n : ℕ) (k : EventKind) (text : List ℕ) (read : List ℕ → Option A) (print : A → List ℕ) (Fits : A → Type 0) (make : A → Happening) (what : Happening)
    → ((t : List ℕ) (x : A) → read t ≡ Some x → (print x ≡ t) × Fits x)
    → ((x : A) → kind_of (make x) ≡ k)
    → ((x : A) (w : List ℕ) → spaced (w ∷ field_words (make x)) ≡ w ++ 32 ∷ print x)
    → ((x : A) → Fits x → IsInRange n (make x))
    → (read text >>= λ x. Some (make x)) ≡ Some what → IsAbout n k text what
about n k text read print Fits make what takes kinds prints fits given =
    let x = bind_some (read text) (λ x. Some (make x)) what given in
    let t = takes text x.0 x.1 in
    let is : make x.0 ≡ what = same_Some (make x.0) what x.2 in
    record {
      kind = ap kind_of (sym is) ∙ kinds x.0;
      words = λ w. ap (λ (d : Happening). spaced (w ∷ field_words d)) (sym is) ∙ prints x.0 w ∙ ap (λ (y : List ℕ). w ++ 32 ∷ y) t.0;
      fits = subst (λ (d : Happening). IsInRange n d) is (fits x.0 t.1);
    }

pub spaced_op : (w : List ℕ) (op : Op) → spaced (w ∷ op_words op) ≡ w ++ 32 ∷ spaced (op_words op)
spaced_op w op = refl

submit_words : (c : Command) (w : List ℕ) → spaced (w ∷ field_words (happening.At (node.Told (input.Submit c)))) ≡ w ++ 32 ∷ submitted_text c
submit_words c w = ap (λ (y : List ℕ). w ++ 32 ∷ (decimal c.request.client ++ 32 ∷ y)) (spaced_op (decimal c.request.seq) c.op)

about_takes : (n : ℕ) (k : EventKind) (text : List ℕ) (what : Happening) → about_at n k text ≡ Some what → IsAbout n k text what
about_takes n Submit text what given = about n Submit text submitted_at submitted_text IsCommand (λ c. happening.At (node.Told (input.Submit c))) what submitted_takes (λ c. refl) submit_words (λ c h. h) given
about_takes n Hear text what given = about n Hear text small_at decimal (λ k. k < 2 ^ 32) (λ k. happening.At (node.Told (input.Hear k))) what small_takes (λ k. refl) (λ k w. refl) (λ k h. h) given
about_takes n Suspect text what given = about n Suspect text (set_at n) set_text (λ s. s < 2 ^ n) (λ s. happening.At (node.Told (input.Suspect s))) what (set_takes n) (λ s. refl) (λ s w. refl) (λ s h. h) given
about_takes n Fail text what given = about n Fail text fill_at fill_text IsFill (λ f. happening.Fail f) what fill_takes (λ f. refl) (λ f w. refl) (λ f h. h) given
about_takes n Crash text what given = about n Crash text cuts_at cuts_text AreCuts (λ c. happening.Crash c.0 c.1 c.2) what cuts_takes (λ c. refl) (λ c w. refl) (λ c h. h) given
about_takes n k text what given = absurd (cc)

-- an event with something behind its node
beside : (n : ℕ) (k : EventKind) (text : List ℕ) (e : Event) → n ≤ 7 → (first_node_at n text >>= λ p. about_at n k p.1 >>= λ what. Some (record { node = p.0; what = what })) ≡ Some e → Was n k text e
beside n k text e few given =
    let make : ℕ → Happening → Event = λ p what. record { node = p; what = what } in
    let p = bind_some (first_node_at n text) (λ p. about_at n k p.1 >>= λ what. Some (make p.0 what)) e given in
    let x = bind_some (about_at n k p.0.1) (λ what. Some (make p.0.0 what)) e p.2 in
    let t = first_node_takes n text p.0 few p.1 in
    let u = about_takes n k p.0.1 x.0 x.1 in
    let is : make p.0.0 x.0 ≡ e = same_Some (make p.0.0 x.0) e x.2 in
    let words = ap (λ (y : List ℕ). keyword_text (kind_of x.0) ++ 32 ∷ y) (u.words (decimal p.0.0)) in
    let kind = ap (λ (y : EventKind). keyword_text y ++ 32 ∷ (decimal p.0.0 ++ 32 ∷ p.0.1)) u.kind in
    record {
      printed = ap event_text (sym is) ∙ words ∙ kind ∙ ap (λ (y : List ℕ). keyword_text k ++ 32 ∷ y) t.0;
      fits = subst (λ (d : Event). IsEvent n d) is (record { node = t.1; fields = u.fits });
    }

said_takes : (n : ℕ) (k : EventKind) (o : Option (NodeEvent ℕ)) (text : List ℕ) (e : Event) → n ≤ 7 → IfSome o (λ event. IsPlain k event) → said_at n k o text ≡ Some e → Was n k text e
said_takes n k (Some event) text e few plain given = alone n k text event e few plain given
said_takes n k None text e few plain given = beside n k text e few given

pub fields_takes : (n : ℕ) (k : EventKind) (text : List ℕ) (e : Event) → n ≤ 7 → fields_at n k text ≡ Some e → Was n k text e
fields_takes n k text e few given = said_takes n k (plain_at k) text e few (plain_is k) given

-- what is read as an event is printed so
pub event_takes : (n : ℕ) (text : List ℕ) (e : Event) → n ≤ 7 → event_at n text ≡ Some e → (event_text e ≡ text) × IsEvent n e
event_takes n text e few given =
    let w = bind_some (cut_at 32 text) (λ w. keyword_at w.0 >>= λ k. fields_at n k w.1) e given in
    let k = bind_some (keyword_at w.0.0) (λ k. fields_at n k w.0.1) e w.2 in
    let cut : text ≡ w.0.0 ++ 32 ∷ w.0.1 = cut_takes 32 text w.0.0 w.0.1 w.1 in
    let was = fields_takes n k.0 w.0.1 e few k.2 in
    let word : w.0.0 ≡ keyword_text k.0 = keyword_takes w.0.0 k.0 k.1 in
    (was.printed ∙ ap (λ (y : List ℕ). y ++ 32 ∷ w.0.1) (sym word) ∙ sym cut, was.fits)

event_from : (n : ℕ) (k : EventKind) (text : List ℕ) (e : Event) → fields_at n k text ≡ Some e → event_at n (keyword_text k ++ 32 ∷ text) ≡ Some e
event_from n k text e given = rw (cut_again 32 33 (keyword_text k) text (omega arith) (keyword_plain k), keyword_again k) given

-- ---- no byte of a text is below a space

pub joined : (v w : List ℕ) → AtLeast 33 v → AtLeast 32 w → AtLeast 32 (v ++ 32 ∷ w)
joined v w p q = AtLeast-append 32 v (32 ∷ w) (AtLeast-weaken 32 33 v (omega arith) p) (omega arith, q)

pub low : (w : List ℕ) → AtLeast 33 w → AtLeast 32 w
low w p = AtLeast-weaken 32 33 w (omega arith) p

named_plain : (x v : List ℕ) → IsName x → IsValue v → AtLeast 32 (spaced (x ∷ value_words v))
named_plain x [] name value = low x (name_plain x name)
named_plain x (b ∷ v) name value = joined x (b ∷ v) (name_plain x name) (low (b ∷ v) (value_plain (b ∷ v) value))

behind_plain : (x : List ℕ) (o : Operand) → IsName x → IsOperand o → AtLeast 32 (spaced (x ∷ operand_words o))
behind_plain x Nothing name h = low x (name_plain x name)
behind_plain x (Value v) name h = named_plain x v name h
behind_plain x (Owner p) name h = joined x (decimal p) (name_plain x name) (low (decimal p) (decimal_plain p (omega (arith, h))))

pub op_plain : (op : Op) → IsOp op → AtLeast 32 (spaced (op_words op))
op_plain op h = joined (op_word (op_kind op)) (spaced (op_name op ∷ operand_words (op_operand op))) (word_plain (op_kind op)) (behind_plain (op_name op) (op_operand op) h.0 h.1)

submitted_plain : (c : Command) → IsCommand c → AtLeast 32 (submitted_text c)
submitted_plain c h =
    joined (decimal c.request.client) (decimal c.request.seq ++ 32 ∷ spaced (op_words c.op)) (decimal_plain c.request.client (omega (arith, h.client))) (joined (decimal c.request.seq) (spaced (op_words c.op)) (decimal_plain c.request.seq h.seq) (op_plain c.op h.op))

-- ---- what is printed is read again, and has no line feed

-- the text of an event is read again, and each of its bytes is a space or above
pub record IsReadAgain (n : ℕ) (e : Event) : Type 0 where
  pub again : event_at n (event_text e) ≡ Some e
  pub plain : AtLeast 32 (event_text e)

-- the text of an event is its keyword and what is behind it
from_text : (n : ℕ) (k : EventKind) (text : List ℕ) (e : Event) → event_text e ≡ keyword_text k ++ 32 ∷ text → fields_at n k text ≡ Some e → AtLeast 32 text → IsReadAgain n e
from_text n k text e is given plain = record {
  again = ap (event_at n) is ∙ event_from n k text e given;
  plain = subst (λ (w : List ℕ). AtLeast 32 w) (sym is) (joined (keyword_text k) text (keyword_plain k) plain);
}

alone_again : (n p : ℕ) (event : NodeEvent ℕ) → n ≤ 7 → p < n → plain_at (kind_at_node event) ≡ Some event → field_words (happening.At event) ≡ [] → IsReadAgain n (event_of p event)
alone_again n p event few lt plain none = from_text n (kind_at_node event) (decimal p) (event_of p event)
    (ap (λ (ws : List (List ℕ)). spaced (keyword_text (kind_at_node event) ∷ decimal p ∷ ws)) none)
    (ap (λ (o : Option (NodeEvent ℕ)). said_at n (kind_at_node event) o (decimal p)) plain ∙ (rw (node_again n p few lt) refl)) (low (decimal p) (node_plain n p few lt))

beside_again : (n p : ℕ) (what : Happening) (text : List ℕ) → n ≤ 7 → p < n → plain_at (kind_of what) ≡ None → ((w : List ℕ) → spaced (w ∷ field_words what) ≡ w ++ 32 ∷ text)
    → about_at n (kind_of what) text ≡ Some what → AtLeast 32 text → IsReadAgain n (record { node = p; what = what })
beside_again n p what text few lt more words given plain = from_text n (kind_of what) (decimal p ++ 32 ∷ text) (record { node = p; what = what })
    (ap (λ (y : List ℕ). keyword_text (kind_of what) ++ 32 ∷ y) (words (decimal p)))
    (ap (λ (o : Option (NodeEvent ℕ)). said_at n (kind_of what) o (decimal p ++ 32 ∷ text)) more ∙ (rw (first_node_again n p text few lt, given) refl))
    (joined (decimal p) text (node_plain n p few lt) plain)

what_again : (n p : ℕ) (what : Happening) → n ≤ 7 → p < n → IsInRange n what → IsReadAgain n (record { node = p; what = what })
what_again n p (happening.At (node.Told (input.Submit c))) few lt h =
    beside_again n p (happening.At (node.Told (input.Submit c))) (submitted_text c) few lt refl (submit_words c) (rw (submitted_again c h) refl) (submitted_plain c h)
what_again n p (happening.At (node.Told (input.Hear k))) few lt h =
    beside_again n p (happening.At (node.Told (input.Hear k))) (decimal k) few lt refl (λ w. refl) (rw (small_again k h) refl) (low (decimal k) (decimal_plain k (omega (arith, h))))
what_again n p (happening.At (node.Told (input.Suspect s))) few lt h =
    beside_again n p (happening.At (node.Told (input.Suspect s))) (set_text s) few lt refl (λ w. refl) (rw (set_again n s few h) refl) (low (set_text s) (set_plain s))
what_again n p (happening.At event) few lt h = alone_again n p event few lt refl refl
what_again n p (happening.Fail f) few lt h = beside_again n p (happening.Fail f) (fill_text f) few lt refl (λ w. refl) (rw (fill_again f h) refl) (low (fill_text f) (fill_plain f h))
what_again n p (happening.Crash a b f) few lt h =
    beside_again n p (happening.Crash a b f) (cuts_text (a, b, f)) few lt refl (λ w. refl) (rw (cuts_again a b f h.0 h.1 h.2) refl)
    (joined (decimal a) (decimal b ++ 32 ∷ fill_text f) (decimal_plain a (omega (arith, h.0))) (joined (decimal b) (fill_text f) (decimal_plain b (omega (arith, h.1))) (low (fill_text f) (fill_plain f h.2))))

read_again : (n : ℕ) (e : Event) → n ≤ 7 → IsEvent n e → IsReadAgain n e
read_again n e few h = what_again n e.node e.what few h.node h.fields

-- an event that is printed is read again
pub event_again : (n : ℕ) (e : Event) → n ≤ 7 → IsEvent n e → event_at n (event_text e) ≡ Some e
event_again n e few h = (read_again n e few h).again

-- the text of an event has no line feed
pub event_plain : (n : ℕ) (e : Event) → n ≤ 7 → IsEvent n e → AtLeast 32 (event_text e)
event_plain n e few h = (read_again n e few h).plain

-- the line of an event is cut where it ends
pub line_again : (n : ℕ) (e : Event) (more : List ℕ) → n ≤ 7 → IsEvent n e → cut_at 10 (event_line e ++ more) ≡ Some (event_text e, more)
line_again n e more few h = ap (cut_at 10) (append_assoc (event_text e) (10 ∷ []) more) ∙ cut_again 10 32 (event_text e) more (omega arith) (event_plain n e few h)
