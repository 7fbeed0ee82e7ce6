-- Schedules: what is read is printed so, and what is printed is read again.
use Rattle.std.proofs.Common.{◌≡◌, ℕ, ◌+◌, ◌^◌, ◌<◌, ◌≤◌, decimal, arith, List, ◌∷◌, [], ◌++◌, get_or, drop, Option, Some, None, Result, Ok, Err, MatchResult, ap, ◌∙◌, sym}
use Rattle.std.specs.Prelude.{IfOk, IfErr}
use Rattle.std.specs.Option.{option_map}
use Rattle.std.proofs.lemmas.Fmt.{decimal_digit}
use Rattle.std.proofs.lemmas.List.{append_assoc}
use Rattle.rr_types.specs.declared.refusal.Refusal.{Refusal}
use Rattle.rr_types.specs.declared.refusal.Refusal.TheVariants.{OutOfMemory}
use Rattle.rr_types.specs.declared.event.NodeEvent.{NodeEvent}
use Rattle.rr_text.specs.declared.event.Event.{Event}
use Rattle.rr_text.specs.Lines.{HasNoLine, IsFault}
use Rattle.rr_text.specs.Scheduled.{Scheduled, IsEvent, IsSchedule}
use Rattle.rr_text.specs.ScheduleTexts.{event_text, event_line, HearsNothing, schedule_text}
use Rattle.rr_text.specs.declared.kind.EventKind.{EventKind}
use Rattle.rr_text.specs.declared.kind.EventKind.TheVariants.{Hear}
use Rattle.rr_types.specs.declared.input.Input.TheVariants as input
use Rattle.rr_text.specs.Events.{event_of, told_at}
use Rattle.rr_text.specs.Reading.{cut_at, small_at, keyword_text, plain_at, said_at, event_at}
use Rattle.rr_text.proofs.CutLemmas.{cut_takes, cut_again}
use Rattle.rr_text.proofs.NumberLemmas.{node_again, small_takes, small_again, decimal_plain}
use Rattle.rr_text.proofs.EventReading.{fields_takes, event_takes, event_again, line_again}
use Rattle.rr_text.proofs.LineReading.{AreLines, line_uncut, line_unread}
use Rattle.rr_text.proofs.TextReading.{AreTexts, IsText, text_one, only_memory}

-- what one line gives: its event, and the bytes behind it
line_takes : (n : ℕ) (bytes text rest : List ℕ) (e : Event) → n ≤ 7 → cut_at 10 bytes ≡ Some (text, rest) → Some e ≡ event_at n text → IsEvent n e × (bytes ≡ event_line e ++ rest)
line_takes n bytes text rest e few cut read =
    let t = event_takes n text e few (sym read) in
    let is : bytes ≡ text ++ 10 ∷ rest = cut_takes 10 bytes text rest cut in
    (t.1, is ∙ ap (λ (y : List ℕ). y ++ 10 ∷ rest) (sym t.0) ∙ sym (append_assoc (event_text e) (10 ∷ []) rest))

-- events are read again as they were printed
pub event_lines : (n : ℕ) → n ≤ 7 → AreLines (IsEvent n) event_line (event_at n)
event_lines n few = record {
  takes = λ bytes text rest e cut read. line_takes n bytes text rest e few cut read;
  again = λ e more fits. (event_text e, line_again n e more few fits, event_again n e few fits);
}

-- ---- the line at the front of bytes

pub event_taken : (n : ℕ) (bytes text rest : List ℕ) (e : Event) → n ≤ 7 → cut_at 10 bytes ≡ Some (text, rest) → Some e ≡ event_at n text → IsEvent n e × (bytes ≡ event_line e ++ rest)
event_taken n bytes text rest e few cut read = line_takes n bytes text rest e few cut read

pub event_uncut : (n : ℕ) (bytes : List ℕ) → n ≤ 7 → cut_at 10 bytes ≡ None → HasNoLine (IsEvent n) event_line bytes
event_uncut n bytes few cut = line_uncut (event_lines n few) bytes cut

pub event_unread : (n : ℕ) (bytes text rest : List ℕ) → n ≤ 7 → cut_at 10 bytes ≡ Some (text, rest) → None ≡ event_at n text → HasNoLine (IsEvent n) event_line bytes
event_unread n bytes text rest few cut unread = line_unread (event_lines n few) bytes text rest cut unread

-- ---- a line that is matched whole

alone_read : (n : ℕ) (k : EventKind) (o : Option (NodeEvent ℕ)) (p : ℕ) (e : Event) → n ≤ 7 → p < n → option_map (event_of p) o ≡ Some e → said_at n k o (decimal p) ≡ Some e
alone_read n k (Some event) p e few lt h = rw (node_again n p few lt) h
alone_read n k None p e few lt h = absurd (cc)

-- a keyword, a space, a node's digit and a line feed are the line of the event
pub plain_taken : (n : ℕ) (k : EventKind) (p d : ℕ) (e : Event) (bytes rest : List ℕ) → n ≤ 7 → p < n → d ≡ 48 + p → option_map (event_of p) (plain_at k) ≡ Some e → bytes ≡ keyword_text k ++ 32 ∷ d ∷ 10 ∷ rest → IsEvent n e × (bytes ≡ event_line e ++ rest)
plain_taken n k p d e bytes rest few lt digit read is =
    let was = fields_takes n k (decimal p) e few (alone_read n k (plain_at k) p e few lt read) in
    let one : decimal p ≡ d ∷ [] = decimal_digit p (omega arith) ∙ ap (λ (c : ℕ). c ∷ []) (sym digit) in
    let text : event_text e ≡ keyword_text k ++ 32 ∷ d ∷ [] = was.printed ∙ ap (λ (y : List ℕ). keyword_text k ++ 32 ∷ y) one in
    let line : event_line e ++ rest ≡ keyword_text k ++ 32 ∷ d ∷ 10 ∷ rest =
    append_assoc (event_text e) (10 ∷ []) rest ∙ ap (λ (y : List ℕ). y ++ 10 ∷ rest) text ∙ append_assoc (keyword_text k) (32 ∷ d ∷ []) (10 ∷ rest) in
    (was.fits, is ∙ sym line)

-- the line of an event on hearing a message, in its parts
heard_parts : (n p k : ℕ) (more : List ℕ) → n ≤ 7 → p < n → event_line (told_at p (input.Hear k)) ++ more ≡ keyword_text Hear ++ 32 ∷ (48 + p) ∷ 32 ∷ (decimal k ++ 10 ∷ more)
heard_parts n p k more few lt =
    ap (λ (y : List ℕ). (keyword_text Hear ++ 32 ∷ (y ++ 32 ∷ decimal k) ++ 10 ∷ []) ++ more) (decimal_digit p (omega arith)) ∙ append_assoc (keyword_text Hear ++ 32 ∷ (48 + p) ∷ 32 ∷ decimal k) (10 ∷ []) more

-- the keyword `hear`, a space, a node's digit, a space and a number up to a line feed are the line of the event
pub heard_taken : (n : ℕ) (p d k : ℕ) (bytes words word rest : List ℕ) → n ≤ 7 → p < n → d ≡ 48 + p → bytes ≡ keyword_text Hear ++ 32 ∷ d ∷ 32 ∷ words → cut_at 10 words ≡ Some (word, rest) → small_at word ≡ Some k
    → IsEvent n (told_at p (input.Hear k)) × (bytes ≡ event_line (told_at p (input.Hear k)) ++ rest)
heard_taken n p d k bytes words word rest few lt digit is cut number =
    let t = small_takes word k number in
    let behind : words ≡ decimal k ++ 10 ∷ rest = cut_takes 10 words word rest cut ∙ ap (λ (y : List ℕ). y ++ 10 ∷ rest) (sym t.0) in
    let parts : bytes ≡ keyword_text Hear ++ 32 ∷ (48 + p) ∷ 32 ∷ (decimal k ++ 10 ∷ rest) =
    is ∙ ap (λ (b : ℕ). keyword_text Hear ++ 32 ∷ b ∷ 32 ∷ words) digit ∙ ap (λ (y : List ℕ). keyword_text Hear ++ 32 ∷ (48 + p) ∷ 32 ∷ y) behind in
    (record { node = lt; fields = t.1 }, parts ∙ sym (heard_parts n p k rest few lt))

-- no line on hearing a message stands where its parts can't stand
pub hears_nothing : (n : ℕ) (bytes : List ℕ) → n ≤ 7 → ((p k : ℕ) (more : List ℕ) → p < n → k < 2 ^ 32 → bytes ≡ keyword_text Hear ++ 32 ∷ (48 + p) ∷ 32 ∷ (decimal k ++ 10 ∷ more) → ⊥) → HearsNothing n bytes
hears_nothing n bytes few never = λ p k more fits is. never p k more fits.node fits.fields (is ∙ heard_parts n p k more few fits.node)

-- bytes have these parts in one way alone
pub heard_parts_one : (a b : ℕ) (v w : List ℕ) → keyword_text Hear ++ 32 ∷ a ∷ 32 ∷ v ≡ keyword_text Hear ++ 32 ∷ b ∷ 32 ∷ w → (a ≡ b) × (v ≡ w)
heard_parts_one a b v w same = (ap (λ (bytes : List ℕ). get_or bytes 5 0) same, ap (λ (bytes : List ℕ). drop 7 bytes) same)

-- behind the node's digit and a space, a number and a line feed can be cut, and the number is read again
pub heard_number : (k : ℕ) (more : List ℕ) → k < 2 ^ 32 → (cut_at 10 (decimal k ++ 10 ∷ more) ≡ Some (decimal k, more)) × (small_at (decimal k) ≡ Some k)
heard_number k more lt = (cut_again 10 33 (decimal k) more (omega arith) (decimal_plain k (omega arith)), small_again k lt)

pub schedules : AreTexts IsEvent event_line event_at
schedules = record { lines = event_lines }

text_of : (s : Scheduled) → IsSchedule s → IsText IsEvent s.nodes s.events
text_of s fits = record { some = fits.some; few = fits.few; short = fits.short; each = fits.each }

-- two schedules with one text are one
schedule_one : (s t : Scheduled) → IsSchedule s → IsSchedule t → schedule_text s ≡ schedule_text t → s ≡ t
schedule_one s t fits_s fits_t same =
    let one = text_one schedules s.nodes t.nodes s.events t.events (text_of s fits_s) (text_of t fits_t) same in
    let make : ℕ → List Event → Scheduled = λ n es. record { nodes = n; events = es } in
    ap (λ n. make n s.events) one.0 ∙ ap (make t.nodes) one.1

-- what is read is the one schedule with this text, unless memory runs out
pub read_again : (bytes : List ℕ) (r : Result Scheduled Refusal) → IfOk r (λ t. IsSchedule t × (bytes ≡ schedule_text t)) → IfErr r (λ e. IsFault IsEvent event_line bytes e) → (s : Scheduled) → IsSchedule s → bytes ≡ schedule_text s → MatchResult r (λ t. t ≡ s) (λ e. e ≡ OutOfMemory)
read_again bytes (Ok t) found fault s fits is = schedule_one t s found.0 fits (sym found.1 ∙ is)
read_again bytes (Err e) found fault s fits is = only_memory schedules s.nodes s.events bytes e (text_of s fits) is fault
