-- Scripts: what is read is printed so, and what is printed is read again.
use Rattle.std.proofs.Common.{◌≡◌, ℕ, ◌+◌, ◌<◌, ◌≤◌, cond, List, [], ◌∷◌, ◌++◌, length, Option, None, Some, Result, Ok, Err, MatchResult, codes, decimal, refl, ap, subst, ◌∙◌, sym, arith, inl, inr}
use Rattle.std.specs.Prelude.{IfOk, IfErr}
use Rattle.std.specs.List.{flat_map, AllByRecursion}
use Rattle.std.specs.Str.{bytes_eq}
use Rattle.std.proofs.lemmas.List.{append_assoc, append-nil}
use Rattle.std.proofs.lemmas.Option.{same_Some}
use Rattle.rr_types.specs.Names.{IsName}
use Rattle.rr_types.specs.declared.command.Command.{Command}
use Rattle.rr_types.specs.declared.refusal.Refusal.{Refusal}
use Rattle.rr_types.specs.declared.refusal.Refusal.TheVariants.{OutOfMemory, BadEvent}
use Rattle.rr_types.specs.declared.input.Input.TheVariants as input
use Rattle.rr_text.specs.Events.{told_at}
use Rattle.rr_text.specs.Words.{spaced, IsCommand}
use Rattle.rr_text.specs.Reading.{◌>>=◌, cut_at, name_at, first_node_at, submitted_at}
use Rattle.rr_text.proofs.CutLemmas.{AtLeast, bind_some, cut_again, cut_takes, plain_by_test}
use Rattle.rr_text.proofs.NumberLemmas.{decimal_plain}
use Rattle.rr_text.proofs.WordReading.{AtLeast-weaken, chosen, same_text, name_again, name_takes, name_plain}
use Rattle.rr_text.proofs.OpReading.{submitted_text, submitted_again, submitted_takes}
use Rattle.rr_text.proofs.EventReading.{joined, first_node_again, first_node_takes, spaced_op, event_plain}
use Rattle.rr_text.proofs.LineReading.{AreLines, All-push, flat_map-push, fronts, lines_prefix, line_uncut, line_unread, nothing_printed, some_more}
use Rattle.rr_text.specs.declared.script_line.ScriptLine.{ScriptLine}
use Rattle.rr_text.specs.declared.script_line.ScriptLine.TheVariants.{Submit, Look}
use Rattle.rr_text.specs.Scripted.{Scripted, IsScriptLine, IsScript}
use Rattle.rr_text.specs.ScriptTexts.{script_words, script_line, script_text}
use Rattle.rr_text.specs.Faults.{HasNoPlace, IsScriptFault}
use Rattle.rr_text.specs.ScriptReading.{submit_at, look_at, script_line_from, script_line_at}

abbrev words_of : ScriptLine → List ℕ
words_of l = spaced (script_words l)

-- ---- one line, from its words

-- a line was read from the text behind its first word
abbrev Was : ℕ → List ℕ → List ℕ → ScriptLine → Type 0
Was n word text l = (words_of l ≡ word ++ 32 ∷ text) × IsScriptLine n l

-- a line that has a node and what stands behind it
behind_node : {A : Type 0} (n : ℕ) (word text : List ℕ) (read : List ℕ → Option A) (print : A → List ℕ) (Fits : A → Type 0) (make : ℕ → A → ScriptLine) (l : ScriptLine) → n ≤ 7
    → ((t : List ℕ) (x : A) → read t ≡ Some x → (print x ≡ t) × Fits x)
    → ((p : ℕ) (x : A) → words_of (make p x) ≡ word ++ 32 ∷ (decimal p ++ 32 ∷ print x))
    → ((p : ℕ) (x : A) → p < n → Fits x → IsScriptLine n (make p x))
    → (first_node_at n text >>= λ p. read p.1 >>= λ x. Some (make p.0 x)) ≡ Some l → Was n word text l
behind_node n word text read print Fits make l few takes prints fits given =
    let p = bind_some (first_node_at n text) (λ p. read p.1 >>= λ x. Some (make p.0 x)) l given in
    let x = bind_some (read p.0.1) (λ x. Some (make p.0.0 x)) l p.2 in
    let t = first_node_takes n text p.0 few p.1 in
    let u = takes p.0.1 x.0 x.1 in
    let is : make p.0.0 x.0 ≡ l = same_Some (make p.0.0 x.0) l x.2 in (
      ap words_of (sym is) ∙ prints p.0.0 x.0 ∙ ap (λ (y : List ℕ). word ++ 32 ∷ (decimal p.0.0 ++ 32 ∷ y)) u.0 ∙ ap (λ (y : List ℕ). word ++ 32 ∷ y) t.0,
      subst (λ (k : ScriptLine). IsScriptLine n k) is (fits p.0.0 x.0 t.1 u.1),
    )

submit_text : (p : ℕ) (c : Command) → words_of (Submit p c) ≡ codes "submit " ++ (decimal p ++ 32 ∷ submitted_text c)
submit_text p c = ap (λ (y : List ℕ). codes "submit " ++ (decimal p ++ 32 ∷ (decimal c.request.client ++ 32 ∷ y))) (spaced_op (decimal c.request.seq) c.op)

submit_takes : (n : ℕ) (text : List ℕ) (l : ScriptLine) → n ≤ 7 → submit_at n text ≡ Some l → Was n (codes "submit") text l
submit_takes n text l few given = behind_node n (codes "submit") text submitted_at submitted_text IsCommand (λ p c. Submit p c) l few submitted_takes submit_text (λ p c lt h. (lt, h)) given

look_takes : (n : ℕ) (text : List ℕ) (l : ScriptLine) → n ≤ 7 → look_at n text ≡ Some l → Was n (codes "look") text l
look_takes n text l few given = behind_node n (codes "look") text name_at (λ (w : List ℕ). w) IsName (λ p name. Look p name) l few name_takes (λ p name. refl) (λ p name lt h. (lt, h)) given

script_line_takes : (n : ℕ) (text : List ℕ) (l : ScriptLine) → n ≤ 7 → script_line_at n text ≡ Some l → (words_of l ≡ text) × IsScriptLine n l
script_line_takes n text l few given =
    let w = bind_some (cut_at 32 text) (script_line_from n) l given in
    let cut : text ≡ w.0.0 ++ 32 ∷ w.0.1 = cut_takes 32 text w.0.0 w.0.1 w.1 in
    elim (chosen (bytes_eq w.0.0 (codes "submit")) (submit_at n w.0.1) (cond (bytes_eq w.0.0 (codes "look")) (look_at n w.0.1) None) (Some l) w.2) [
      | inl c ↦
          let u = submit_takes n w.0.1 l few c.1 in
          (u.0 ∙ ap (λ (y : List ℕ). y ++ 32 ∷ w.0.1) (sym (same_text w.0.0 (codes "submit") c.0)) ∙ sym cut, u.1)
      | inr c ↦
          elim (chosen (bytes_eq w.0.0 (codes "look")) (look_at n w.0.1) None (Some l) c.1) [
            | inl d ↦
                let u = look_takes n w.0.1 l few d.1 in
                (u.0 ∙ ap (λ (y : List ℕ). y ++ 32 ∷ w.0.1) (sym (same_text w.0.0 (codes "look") d.0)) ∙ sym cut, u.1)
            | inr d ↦ absurd (let e : None ≡ Some l = d.1 in cc)
          ]
    ]

from_submit : (n : ℕ) (text : List ℕ) → script_line_at n (codes "submit" ++ 32 ∷ text) ≡ submit_at n text
from_submit n text = rw (cut_again 32 33 (codes "submit") text (omega arith) (plain_by_test (codes "submit") refl)) refl

from_look : (n : ℕ) (text : List ℕ) → script_line_at n (codes "look" ++ 32 ∷ text) ≡ look_at n text
from_look n text = rw (cut_again 32 33 (codes "look") text (omega arith) (plain_by_test (codes "look") refl)) refl

script_line_again : (n : ℕ) (l : ScriptLine) → n ≤ 7 → IsScriptLine n l → script_line_at n (words_of l) ≡ Some l
script_line_again n (Submit p c) few h =
    ap (script_line_at n) (submit_text p c) ∙ from_submit n (decimal p ++ 32 ∷ submitted_text c) ∙ rw (first_node_again n p (submitted_text c) few h.0, submitted_again c h.1) refl
script_line_again n (Look p name) few h =
    from_look n (decimal p ++ 32 ∷ name) ∙ rw (first_node_again n p name few h.0, name_again name h.1) refl

-- the words of a line have no line feed
script_line_plain : (n : ℕ) (l : ScriptLine) → n ≤ 7 → IsScriptLine n l → AtLeast 32 (words_of l)
script_line_plain n (Submit p c) few h = event_plain n (told_at p (input.Submit c)) few (record { node = h.0; fields = h.1 })
script_line_plain n (Look p name) few h =
    joined (codes "look") (decimal p ++ 32 ∷ name) (plain_by_test (codes "look") refl) (joined (decimal p) name (decimal_plain p (omega (arith, h.0, few))) (AtLeast-weaken 32 33 name (omega arith) (name_plain name h.1)))

-- ---- lines

-- lines are read again as they were printed
pub script_lines : (n : ℕ) → n ≤ 7 → AreLines (IsScriptLine n) script_line (script_line_at n)
script_lines n few = record {
  takes = λ bytes text rest l cut read.
      let u = script_line_takes n text l few (sym read) in
      let is : bytes ≡ text ++ 10 ∷ rest = cut_takes 10 bytes text rest cut in
      (u.1, is ∙ ap (λ (y : List ℕ). y ++ 10 ∷ rest) (sym u.0) ∙ sym (append_assoc (words_of l) (10 ∷ []) rest));
  again = λ l more fits.
      (words_of l, ap (cut_at 10) (append_assoc (words_of l) (10 ∷ []) more) ∙ cut_again 10 32 (words_of l) more (omega arith) (script_line_plain n l few fits), script_line_again n l few fits);
}

-- ---- as the loop over the lines goes

-- lines that were read, and what is left
pub record SoFar (n : ℕ) (bytes : List ℕ) (ls : List ScriptLine) (rest : List ℕ) : Type 0 where
  pub each : AllByRecursion (IsScriptLine n) ls
  pub split : bytes ≡ script_text ls ++ rest

pub so_far_none : (n : ℕ) (bytes : List ℕ) → SoFar n bytes [] bytes
so_far_none n bytes = record { each = tt; split = refl }

pub so_far_more : (n : ℕ) (bytes rest after text : List ℕ) (ls : List ScriptLine) (l : ScriptLine) → n ≤ 7 → SoFar n bytes ls rest → cut_at 10 rest ≡ Some (text, after) → Some l ≡ script_line_at n text → SoFar n bytes (ls ++ l ∷ []) after
so_far_more n bytes rest after text ls l few h cut is_read =
    let t = (script_lines n few).takes rest text after l cut is_read in
    record {
      each = All-push (IsScriptLine n) ls l h.each t.0;
      split = h.split ∙ ap (λ (w : List ℕ). script_text ls ++ w) t.1 ∙ sym (append_assoc (script_text ls) (script_line l) after) ∙ ap (λ (w : List ℕ). w ++ after) (sym (flat_map-push script_line ls l));
    }

pub so_far_all : (n : ℕ) (bytes rest : List ℕ) (ls : List ScriptLine) → SoFar n bytes ls rest → length rest ≡ 0 → AllByRecursion (IsScriptLine n) ls × (bytes ≡ script_text ls)
so_far_all n bytes [] ls h none = (h.each, h.split ∙ append-nil (script_text ls))
so_far_all n bytes (b ∷ rest) ls h none = absurd (omega arith)

pub so_far_uncut : (n : ℕ) (bytes rest : List ℕ) (ls : List ScriptLine) (number : ℕ) → n ≤ 7 → SoFar n bytes ls rest → 0 < length rest → number ≡ length ls + 1 → cut_at 10 rest ≡ None → HasNoPlace n bytes number
so_far_uncut n bytes rest ls number few h some counted cut = record { before = ls; rest = rest; each = h.each; split = h.split; counted = counted; some = some; fault = line_uncut (script_lines n few) rest cut }

pub so_far_unread : (n : ℕ) (bytes rest text after : List ℕ) (ls : List ScriptLine) (number : ℕ) → n ≤ 7 → SoFar n bytes ls rest → 0 < length rest → number ≡ length ls + 1 → cut_at 10 rest ≡ Some (text, after) → None ≡ script_line_at n text → HasNoPlace n bytes number
so_far_unread n bytes rest text after ls number few h some counted cut unread = record { before = ls; rest = rest; each = h.each; split = h.split; counted = counted; some = some; fault = line_unread (script_lines n few) rest text after cut unread }

-- ---- scripts

-- two lists of lines with one text are one
lines_one : (n : ℕ) (xs ys : List ScriptLine) → n ≤ 7 → AllByRecursion (IsScriptLine n) xs → AllByRecursion (IsScriptLine n) ys → script_text xs ≡ script_text ys → xs ≡ ys
lines_one n xs ys few each_x each_y same =
    let lines = script_lines n few in
    let on = lines_prefix lines xs ys [] each_x each_y (same ∙ sym (append-nil (script_text ys))) in
    on.is ∙ ap (λ zs. ys ++ zs) (nothing_printed lines on.more on.each on.printed) ∙ append-nil ys

-- a text has no line without a place
no_place : (n : ℕ) (ls : List ScriptLine) (number : ℕ) → n ≤ 7 → AllByRecursion (IsScriptLine n) ls → HasNoPlace n (script_text ls) number → ⊥
no_place n ls number few each stop =
    let on = lines_prefix (script_lines n few) ls stop.before stop.rest each stop.each stop.split in
    some_more (IsScriptLine n) script_line on.more stop.rest on.each on.printed stop.some stop.fault

only_memory : (n : ℕ) (ls : List ScriptLine) (e : Refusal) → n ≤ 7 → AllByRecursion (IsScriptLine n) ls → IsScriptFault n (script_text ls) e → e ≡ OutOfMemory
only_memory n ls OutOfMemory few each fault = refl
only_memory n ls (BadEvent number) few each fault = absurd (no_place n ls number few each fault)
only_memory n ls _ few each fault = absurd fault

-- what is read is the one script with this text, unless memory runs out
pub read_again : (n : ℕ) (bytes : List ℕ) (r : Result Scripted Refusal) → IfOk r (λ t. (t.nodes ≡ n) × IsScript t × (bytes ≡ script_text t.lines)) → IfErr r (λ e. IsScriptFault n bytes e)
    → (s : Scripted) → IsScript s → s.nodes ≡ n → bytes ≡ script_text s.lines → MatchResult r (λ t. t ≡ s) (λ e. e ≡ OutOfMemory)
read_again n bytes (Ok t) found fault s fits nodes is =
    let few : n ≤ 7 = omega (arith, fits.few, nodes) in
    let make : ℕ → List ScriptLine → Scripted = λ k ls. record { nodes = k; lines = ls } in
    let same : t.nodes ≡ s.nodes = found.0 ∙ sym nodes in
    let each_t = subst (λ k. AllByRecursion (IsScriptLine k) t.lines) found.0 found.1.each in
    let each_s = subst (λ k. AllByRecursion (IsScriptLine k) s.lines) nodes fits.each in
    ap (λ k. make k t.lines) same ∙ ap (make s.nodes) (lines_one n t.lines s.lines few each_t each_s (sym found.2 ∙ is))
read_again n bytes (Err e) found fault s fits nodes is =
    let few : n ≤ 7 = omega (arith, fits.few, nodes) in
    let each = subst (λ k. AllByRecursion (IsScriptLine k) s.lines) nodes fits.each in
    only_memory n s.lines e few each (subst (λ (b : List ℕ). IsScriptFault n b e) is fault)

-- ---- other bytes have one fault

one_place : (n : ℕ) (bytes : List ℕ) (k l : ℕ) → n ≤ 7 → HasNoPlace n bytes k → HasNoPlace n bytes l → k ≡ l
one_place n bytes k l few p q =
    elim (fronts (script_lines n few) p.before q.before p.rest q.rest p.each q.each (sym p.split ∙ q.split)) [
      | inl equal ↦ omega (arith, equal, p.counted, q.counted)
      | inr (inl r) ↦ absurd (p.fault r.1.thing r.1.more r.1.fits r.1.split)
      | inr (inr r) ↦ absurd (q.fault r.1.thing r.1.more r.1.fits r.1.split)
    ]

-- memory aside, bytes have one fault
pub one_fault : (n : ℕ) (bytes : List ℕ) (e f : Refusal) → n ≤ 7 → IsScriptFault n bytes e → IsScriptFault n bytes f → (e ≡ OutOfMemory → ⊥) → (f ≡ OutOfMemory → ⊥) → e ≡ f
one_fault n bytes OutOfMemory f few p q ne nf = absurd (ne refl)
one_fault n bytes (BadEvent k) OutOfMemory few p q ne nf = absurd (nf refl)
one_fault n bytes (BadEvent k) (BadEvent l) few p q ne nf = ap (λ (m : ℕ). BadEvent m) (one_place n bytes k l few p q)
one_fault n bytes (BadEvent k) _ few p q ne nf = absurd q
one_fault n bytes _ f few p q ne nf = absurd p
