-- Tapes: what is read is printed so, and what is printed is read again.
use Rattle.std.proofs.Common.{◌≡◌, ℕ, ◌^◌, ◌<◌, ◌≤◌, List, [], ◌∷◌, ◌++◌, Option, None, Some, Result, Ok, Err, MatchResult, length, codes, decimal, refl, ap, subst, ◌∙◌, sym, arith, ◌⊎◌, inl, inr}
use Rattle.std.specs.Prelude.{IfOk, IfErr, MatchOption}
use Rattle.std.proofs.lemmas.List.{append_assoc, length-append}
use Rattle.std.proofs.lemmas.Option.{same_Some}
use Rattle.rr_types.specs.declared.command.RequestNo.{RequestNo}
use Rattle.rr_types.specs.declared.command.Reply.{Reply}
use Rattle.rr_types.specs.declared.refusal.Refusal.{Refusal}
use Rattle.rr_types.specs.declared.refusal.Refusal.TheVariants.{OutOfMemory, BadEvent}
use Rattle.rr_text.specs.declared.event.Event.{Event}
use Rattle.rr_text.specs.declared.event.Happening.{Happening}
use Rattle.rr_text.specs.declared.event.Happening.TheVariants.{At, Fail, Crash}
use Rattle.rr_types.specs.declared.event.NodeEvent.TheVariants as events
use Rattle.rr_text.specs.declared.kind.EventKind.{EventKind}
use Rattle.rr_text.specs.declared.kind.EventKind.TheVariants as keywords
use Rattle.rr_types.specs.declared.input.Input.TheVariants.{Hear}
use Rattle.rr_text.specs.Events.{event_of, told_at}
use Rattle.rr_text.specs.Words.{spaced}
use Rattle.rr_text.specs.Lines.{HasNoLine, IsFault}
use Rattle.rr_text.specs.Scheduled.{IsEvent}
use Rattle.rr_text.specs.ScheduleTexts.{event_text, event_line}
use Rattle.rr_text.specs.ReportTexts.{request_text, message_words, reply_words}
use Rattle.rr_text.specs.Reading.{◌>>=◌, cut_at, small_at, node_at, keyword_text, keyword_at, fields_at}
use Rattle.rr_text.proofs.CutLemmas.{AtLeast, bind_some, cut_again, cut_takes}
use Rattle.rr_text.proofs.EventReading.{joined, keyword_takes, keyword_again, keyword_plain, fields_takes, event_again, event_plain}
use Rattle.rr_text.proofs.LineReading.{AreLines, line_uncut, line_unread}
use Rattle.rr_text.proofs.TextReading.{AreTexts, IsText, text_one, only_memory}
use Rattle.rr_text.specs.declared.tape_event.TapeEvent.{TapeEvent}
use Rattle.rr_text.specs.declared.tape_event.Recorded.{Recorded}
use Rattle.rr_text.specs.declared.tape_event.Recorded.TheVariants.{Told, Take, Mark, Sent, Acked}
use Rattle.rr_text.specs.Taped.{Taped, IsMessage, IsRequest, IsReply, of_node, IsTapeEvent, IsTape}
use Rattle.rr_text.specs.TapeTexts.{tape_words, tape_line, tape_text}
use Rattle.rr_text.specs.TapeReading.{both_at, request_at, reply_at, message_at, as_recorded, tape_fields_at, tape_event_at}
use Rattle.rr_text.proofs.Readers.{IsReader, taken_as, beside, small_word, node_word}
use Rattle.rr_text.proofs.MessageReading.{request_word, message_text, reply_reader, spaced_reply}

abbrev words_of : TapeEvent → List ℕ
words_of e = spaced (tape_words e)

-- ---- outputs

sent_text : (n : ℕ) → n ≤ 7 → IsReader 32 (both_at small_at (message_at n)) (λ x. decimal x.0 ++ 32 ∷ spaced (message_words x.1)) (λ x. (x.0 < 2 ^ 32) × IsMessage n x.1)
sent_text n few = beside small_word (message_text n few)

-- the words of an acknowledgement behind its keyword
abbrev acked_words : ℕ × (RequestNo × Reply) → List ℕ
acked_words x = decimal x.0 ++ 32 ∷ (request_text x.1.0 ++ 32 ∷ spaced (reply_words x.1.1))

acked_text : (n : ℕ) → n ≤ 7 → IsReader 32 (both_at (node_at n) (both_at request_at reply_at)) acked_words (λ x. (x.0 < n) × (IsRequest x.1.0 × IsReply x.1.1))
acked_text n few = beside (node_word n few) (beside request_word reply_reader)

ack_words : (p : ℕ) (q : RequestNo) (r : Reply) → words_of (of_node p (Acked q r)) ≡ codes "ack " ++ acked_words (p, (q, r))
ack_words p q r = ap (λ (w : List ℕ). codes "ack " ++ (decimal p ++ 32 ∷ w)) (spaced_reply (request_text q) r)

-- ---- inputs

-- an event of a tape has the words of the event of a schedule that it is
recorded_words : (n p : ℕ) (h : Happening) (t : TapeEvent) → as_recorded (record { node = p; what = h }) ≡ Some t → IsEvent n (record { node = p; what = h })
    → (words_of t ≡ event_text (record { node = p; what = h })) × IsTapeEvent n t
recorded_words n p (At (events.Told input)) t e h =
    subst (λ (u : TapeEvent). (words_of u ≡ event_text (event_of p (events.Told input))) × IsTapeEvent n u) (same_Some (of_node p (Told input)) t e)
    (refl, record { node = h.node; what = h.fields })
recorded_words n p (At events.Take) t e h =
    subst (λ (u : TapeEvent). (words_of u ≡ event_text (event_of p events.Take)) × IsTapeEvent n u) (same_Some (of_node p Take) t e) (refl, record { node = h.node; what = tt })
recorded_words n p (At events.Mark) t e h =
    subst (λ (u : TapeEvent). (words_of u ≡ event_text (event_of p events.Mark)) × IsTapeEvent n u) (same_Some (of_node p Mark) t e) (refl, record { node = h.node; what = tt })
recorded_words n p (At events.Device) t e h = absurd cc
recorded_words n p (At events.Send) t e h = absurd cc
recorded_words n p (At events.Acknowledge) t e h = absurd cc
recorded_words n p (At events.Snap) t e h = absurd cc
recorded_words n p (At events.Restart) t e h = absurd cc
recorded_words n p (Fail f) t e h = absurd cc
recorded_words n p (Crash a b f) t e h = absurd cc

input_takes : (n : ℕ) (k : EventKind) (text : List ℕ) (t : TapeEvent) → n ≤ 7 → (fields_at n k text >>= as_recorded) ≡ Some t → (words_of t ≡ keyword_text k ++ 32 ∷ text) × IsTapeEvent n t
input_takes n k text t few given =
    let e = bind_some (fields_at n k text) as_recorded t given in
    let was = fields_takes n k text e.0 few e.1 in
    let r = recorded_words n e.0.node e.0.what t e.2 was.fits in
    (r.0 ∙ was.printed, r.1)

-- ---- events

tape_fields_takes : (n : ℕ) (k : EventKind) (text : List ℕ) (t : TapeEvent) → n ≤ 7 → tape_fields_at n k text ≡ Some t → (words_of t ≡ keyword_text k ++ 32 ∷ text) × IsTapeEvent n t
tape_fields_takes n keywords.Send text t few given =
    taken_as (sent_text n few) (λ x. of_node x.1.from (Sent x.0 x.1)) words_of (IsTapeEvent n) (codes "send") (λ x. refl) (λ x h. record { node = h.1.from; what = (h.0, refl, h.1) }) text t given
tape_fields_takes n keywords.Ack text t few given =
    taken_as (acked_text n few) (λ x. of_node x.0 (Acked x.1.0 x.1.1)) words_of (IsTapeEvent n) (codes "ack") (λ x. ack_words x.0 x.1.0 x.1.1) (λ x h. record { node = h.0; what = h.1 }) text t given
tape_fields_takes n k text t few given = input_takes n k text t few given

tape_event_takes : (n : ℕ) (text : List ℕ) (t : TapeEvent) → n ≤ 7 → tape_event_at n text ≡ Some t → (words_of t ≡ text) × IsTapeEvent n t
tape_event_takes n text t few given =
    let w = bind_some (cut_at 32 text) (λ w. keyword_at w.0 >>= λ k. tape_fields_at n k w.1) t given in
    let k = bind_some (keyword_at w.0.0) (λ k. tape_fields_at n k w.0.1) t w.2 in
    let cut : text ≡ w.0.0 ++ 32 ∷ w.0.1 = cut_takes 32 text w.0.0 w.0.1 w.1 in
    let f = tape_fields_takes n k.0 w.0.1 t few k.2 in
    (f.0 ∙ ap (λ (y : List ℕ). y ++ 32 ∷ w.0.1) (sym (keyword_takes w.0.0 k.0 k.1)) ∙ sym cut, f.1)

-- what stands behind a keyword is read as its fields
tape_fields_is : (n : ℕ) (k : EventKind) (text : List ℕ) → tape_event_at n (keyword_text k ++ 32 ∷ text) ≡ tape_fields_at n k text
tape_fields_is n k text = rw (cut_again 32 33 (keyword_text k) text (omega arith) (keyword_plain k), keyword_again k) refl

-- fields that are read as an event of a schedule are read as the event of a tape that it is
fields_again : (n : ℕ) (k : EventKind) (text : List ℕ) (e : Event) (t : TapeEvent) → fields_at n k text ≡ Some e → as_recorded e ≡ Some t → tape_fields_at n k text ≡ Some t
fields_again n keywords.Send text e t read is =
    let p = bind_some (node_at n text) (λ p. Some (event_of p events.Send)) e read in
    absurd (let no : None ≡ Some t = ap as_recorded (same_Some (event_of p.0 events.Send) e p.2) ∙ is in cc)
fields_again n keywords.Ack text e t read is =
    let p = bind_some (node_at n text) (λ p. Some (event_of p events.Acknowledge)) e read in
    absurd (let no : None ≡ Some t = ap as_recorded (same_Some (event_of p.0 events.Acknowledge) e p.2) ∙ is in cc)
fields_again n k text e t read is = ap (λ (o : Option Event). o >>= as_recorded) read ∙ is

-- so is a text
input_again : (n : ℕ) (e : Event) (t : TapeEvent) → n ≤ 7 → IsEvent n e → as_recorded e ≡ Some t → tape_event_at n (event_text e) ≡ Some t
input_again n e t few h is =
    let w = bind_some (cut_at 32 (event_text e)) (λ w. keyword_at w.0 >>= λ k. fields_at n k w.1) e (event_again n e few h) in
    let k = bind_some (keyword_at w.0.0) (λ k. fields_at n k w.0.1) e w.2 in
    ap (λ (o : Option (List ℕ × List ℕ)). o >>= λ w. keyword_at w.0 >>= λ k. tape_fields_at n k w.1) w.1
    ∙ ap (λ (o : Option EventKind). o >>= λ k. tape_fields_at n k w.0.1) k.1
    ∙ fields_again n k.0 w.0.1 e t k.2 is

recorded_again : (n p : ℕ) (r : Recorded) → n ≤ 7 → IsTapeEvent n (of_node p r) → tape_event_at n (words_of (of_node p r)) ≡ Some (of_node p r)
recorded_again n p (Told input) few h = input_again n (event_of p (events.Told input)) (of_node p (Told input)) few (record { node = h.node; fields = h.what }) refl
recorded_again n p Take few h = input_again n (event_of p events.Take) (of_node p Take) few (record { node = h.node; fields = tt }) refl
recorded_again n p Mark few h = input_again n (event_of p events.Mark) (of_node p Mark) few (record { node = h.node; fields = tt }) refl
recorded_again n p (Sent k m) few h =
    let read : tape_event_at n (words_of (of_node p (Sent k m))) ≡ Some (of_node m.from (Sent k m)) = tape_fields_is n keywords.Send (decimal k ++ 32 ∷ spaced (message_words m)) ∙ rw ((sent_text n few).again (k, m) (h.what.0, h.what.2)) refl in
    read ∙ ap (λ (q : ℕ). Some (of_node q (Sent k m))) h.what.1
recorded_again n p (Acked q r) few h = ap (tape_event_at n) (ack_words p q r) ∙ tape_fields_is n keywords.Ack (acked_words (p, (q, r))) ∙ rw ((acked_text n few).again (p, (q, r)) (h.node, h.what)) refl

tape_event_again : (n : ℕ) (t : TapeEvent) → n ≤ 7 → IsTapeEvent n t → tape_event_at n (words_of t) ≡ Some t
tape_event_again n t few h = recorded_again n t.node t.what few h

-- the words of an event have no line feed
recorded_plain : (n p : ℕ) (r : Recorded) → n ≤ 7 → IsTapeEvent n (of_node p r) → AtLeast 32 (words_of (of_node p r))
recorded_plain n p (Told input) few h = event_plain n (event_of p (events.Told input)) few (record { node = h.node; fields = h.what })
recorded_plain n p Take few h = event_plain n (event_of p events.Take) few (record { node = h.node; fields = tt })
recorded_plain n p Mark few h = event_plain n (event_of p events.Mark) few (record { node = h.node; fields = tt })
recorded_plain n p (Sent k m) few h = joined (keyword_text keywords.Send) (decimal k ++ 32 ∷ spaced (message_words m)) (keyword_plain keywords.Send) ((sent_text n few).plain (k, m) (h.what.0, h.what.2))
recorded_plain n p (Acked q r) few h =
    subst (λ (w : List ℕ). AtLeast 32 w) (sym (ack_words p q r)) (joined (keyword_text keywords.Ack) (acked_words (p, (q, r))) (keyword_plain keywords.Ack) ((acked_text n few).plain (p, (q, r)) (h.node, h.what)))

tape_event_plain : (n : ℕ) (t : TapeEvent) → n ≤ 7 → IsTapeEvent n t → AtLeast 32 (words_of t)
tape_event_plain n t few h = recorded_plain n t.node t.what few h

-- ---- lines and tapes

-- events are read again as they were printed
pub tape_lines : (n : ℕ) → n ≤ 7 → AreLines (IsTapeEvent n) tape_line (tape_event_at n)
tape_lines n few = record {
  takes = λ bytes text rest t cut read.
      let u = tape_event_takes n text t few (sym read) in
      let is : bytes ≡ text ++ 10 ∷ rest = cut_takes 10 bytes text rest cut in
      (u.1, is ∙ ap (λ (y : List ℕ). y ++ 10 ∷ rest) (sym u.0) ∙ sym (append_assoc (words_of t) (10 ∷ []) rest));
  again = λ t more fits.
      (words_of t, ap (cut_at 10) (append_assoc (words_of t) (10 ∷ []) more) ∙ cut_again 10 32 (words_of t) more (omega arith) (tape_event_plain n t few fits), tape_event_again n t few fits);
}

-- ---- the line at the front of bytes

pub event_taken : (n : ℕ) (bytes text rest : List ℕ) (t : TapeEvent) → n ≤ 7 → cut_at 10 bytes ≡ Some (text, rest) → Some t ≡ tape_event_at n text → IsTapeEvent n t × (bytes ≡ tape_line t ++ rest)
event_taken n bytes text rest t few cut read = (tape_lines n few).takes bytes text rest t cut read

pub event_uncut : (n : ℕ) (bytes : List ℕ) → n ≤ 7 → cut_at 10 bytes ≡ None → HasNoLine (IsTapeEvent n) tape_line bytes
event_uncut n bytes few cut = line_uncut (tape_lines n few) bytes cut

pub event_unread : (n : ℕ) (bytes text rest : List ℕ) → n ≤ 7 → cut_at 10 bytes ≡ Some (text, rest) → None ≡ tape_event_at n text → HasNoLine (IsTapeEvent n) tape_line bytes
event_unread n bytes text rest few cut unread = line_unread (tape_lines n few) bytes text rest cut unread

-- what is read of a line is what the bytes begin with
pub line_ok : {B : Type 0} (now : B → List ℕ) (n line : ℕ) (bytes text rest : List ℕ) (read : Option TapeEvent) (r : Result (Option (TapeEvent × B)) Refusal) → n ≤ 7 → line < 1000002 → cut_at 10 bytes ≡ Some (text, rest) → tape_event_at n text ≡ read
    → IfOk r (λ next. MatchOption next ⊥ (λ x. (read ≡ Some x.0) × (now x.1 ≡ rest))) → IfOk r (λ next. MatchOption next (bytes ≡ []) (λ x. (line < 1000002) × IsTapeEvent n x.0 × (bytes ≡ tape_line x.0 ++ now x.1)))
line_ok now n line bytes text rest read (Ok None) few lt cut is given = absurd given
line_ok now n line bytes text rest read (Ok (Some x)) few lt cut is given =
    let taken = event_taken n bytes text rest x.0 few cut (sym given.0 ∙ sym is) in
    (lt, taken.0, taken.1 ∙ ap (λ (y : List ℕ). tape_line x.0 ++ y) (sym given.1))
line_ok now n line bytes text rest read (Err e) few lt cut is given = tt

-- where nothing is read of a line, the bytes begin with no event
pub line_err : {X : Type 0} (n line : ℕ) (bytes text rest : List ℕ) (read : Option TapeEvent) (r : Result X Refusal) → n ≤ 7 → cut_at 10 bytes ≡ Some (text, rest) → tape_event_at n text ≡ read
    → IfErr r (λ e. (e ≡ OutOfMemory) ⊎ ((e ≡ BadEvent line) × (read ≡ None))) → IfErr r (λ e. (e ≡ OutOfMemory) ⊎ ((e ≡ BadEvent line) × (0 < length bytes) × ((1000002 ≤ line) ⊎ HasNoLine (IsTapeEvent n) tape_line bytes)))
line_err n line bytes text rest read (Ok x) few cut is given = tt
line_err n line bytes text rest read (Err e) few cut is given =
    let whole : bytes ≡ text ++ 10 ∷ rest = cut_takes 10 bytes text rest cut in
    let some : 0 < length bytes = rw whole (omega (arith, length-append text (10 ∷ rest))) in
    elim given [
      | inl memory ↦ inl memory
      | inr bad ↦ inr (bad.0, some, inr (event_unread n bytes text rest few cut (sym bad.1 ∙ sym is)))
    ]

-- a line on hearing a message
pub heard_taken : (n p k : ℕ) (bytes rest : List ℕ) → IsEvent n (told_at p (Hear k)) → bytes ≡ event_line (told_at p (Hear k)) ++ rest → IsTapeEvent n (of_node p (Told (Hear k))) × (bytes ≡ tape_line (of_node p (Told (Hear k))) ++ rest)
heard_taken n p k bytes rest fits is = (record { node = fits.node; what = fits.fields }, is)

pub tapes : AreTexts IsTapeEvent tape_line tape_event_at
tapes = record { lines = tape_lines }

text_of : (t : Taped) → IsTape t → IsText IsTapeEvent t.nodes t.events
text_of t fits = record { some = fits.some; few = fits.few; short = fits.short; each = fits.each }

-- two tapes with one text are one
tape_one : (s t : Taped) → IsTape s → IsTape t → tape_text s ≡ tape_text t → s ≡ t
tape_one s t fits_s fits_t same =
    let one = text_one tapes s.nodes t.nodes s.events t.events (text_of s fits_s) (text_of t fits_t) same in
    let make : ℕ → List TapeEvent → Taped = λ n es. record { nodes = n; events = es } in
    ap (λ n. make n s.events) one.0 ∙ ap (make t.nodes) one.1

-- what is read is the one tape with this text, unless memory runs out
pub read_again : (bytes : List ℕ) (r : Result Taped Refusal) → IfOk r (λ t. IsTape t × (bytes ≡ tape_text t)) → IfErr r (λ e. IsFault IsTapeEvent tape_line bytes e) → (s : Taped) → IsTape s → bytes ≡ tape_text s → MatchResult r (λ t. t ≡ s) (λ e. e ≡ OutOfMemory)
read_again bytes (Ok t) found fault s fits is = tape_one t s found.0 fits (sym found.1 ∙ is)
read_again bytes (Err e) found fault s fits is = only_memory tapes s.nodes s.events bytes e (text_of s fits) is fault
