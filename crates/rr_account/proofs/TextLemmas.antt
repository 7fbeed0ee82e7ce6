-- Texts that grow by a piece.
use Rattle.std.proofs.Common.{◌≡◌, ◌≤◌, ◌++◌, ◌+◌, ◌-◌, ◌<◌, ◌∷◌, [], ℕ, List, Some, length, length-take-le, take, drop, codes, decimal, refl, ap, subst, sym, ◌∙◌, arith}
use Rattle.std.specs.Prelude.{slice_get, slice_range}
use Rattle.std.specs.List.{AllByRecursion, flat_map}
use Rattle.std.proofs.lemmas.List.{append_assoc, append-nil, length-append, take_all, take-append-drop}
use Rattle.std.proofs.Math.ListN.{drop_of_length-le}
use Rattle.std.proofs.Math.Seq.{take-add}
use Rattle.std.proofs.lemmas.Grind.{flat_map-append}
use Rattle.rr_text.specs.declared.report.ReportLine.{ReportLine}
use Rattle.rr_text.specs.ReportTexts.{line, report_words, decided_lines, report_text}
use Rattle.rr_text.specs.Reported.{Reported}
use Rattle.rr_text.specs.declared.event.Event.{Event}
use Rattle.rr_account.specs.declared.outcome.Outcome.{Outcome}
use Rattle.rr_account.specs.Accounts.{Accounted, lines_told, IsSharedOut}
use Rattle.rr_account.specs.Texts.{Piece, Told, Note, shown, told, noted, told_lines, note_line, IsNoteOn, AreNotesOn, IsNoted, AreExplained, ExplainsEach, IsExplained}
use Rattle.rr_account.proofs.ShareLaws.{StandsAt, stands_first, share_here, joined, take_next}

flat_map_more : {X : Type 0} (f : X → List ℕ) (xs : List X) (x : X) → flat_map f (xs ++ x ∷ []) ≡ flat_map f xs ++ f x
flat_map_more f xs x = flat_map-append f xs (x ∷ []) ∙ ap (λ (t : List ℕ). flat_map f xs ++ t) (append-nil (f x))

are_notes_more : (at : ℕ) (events : List Event) (notes : List (List ℕ)) (e : Event) (words : List ℕ) → AreNotesOn at events notes → IsNoteOn (at + length events) e words
    → AreNotesOn at (events ++ e ∷ []) (notes ++ words ∷ [])
are_notes_more at [] [] e words all one = (subst (λ k. IsNoteOn k e words) (omega arith) one, tt)
are_notes_more at [] (w ∷ ws) e words all one = absurd all
are_notes_more at (x ∷ xs) [] e words all one = absurd all
are_notes_more at (x ∷ xs) (w ∷ ws) e words (here, all) one = (here, are_notes_more (at + 1) xs ws e words all (subst (λ k. IsNoteOn k e words) (omega arith) one))

noted_more : (pieces : List Piece) (words : List ℕ) → flat_map noted (pieces ++ Note words ∷ []) ≡ flat_map noted pieces ++ words ∷ []
noted_more [] words = refl
noted_more (p ∷ ps) words = ap (λ (ws : List (List ℕ)). noted p ++ ws) (noted_more ps words) ∙ sym (append_assoc (noted p) (flat_map noted ps) (words ∷ []))

noted_same : (pieces : List Piece) (bytes : List ℕ) → flat_map noted (pieces ++ Told bytes ∷ []) ≡ flat_map noted pieces
noted_same [] bytes = refl
noted_same (p ∷ ps) bytes = ap (λ (ws : List (List ℕ)). noted p ++ ws) (noted_same ps bytes)

pub noted_none : IsNoted [] [] []
noted_none = record { pieces = []; report_is = refl; text_is = refl; notes = tt }

pub noted_told : (events : List Event) (report text bytes : List ℕ) → IsNoted events report text → IsNoted events (report ++ bytes) (text ++ bytes)
noted_told events report text bytes n = record {
  pieces = n.pieces ++ Told bytes ∷ [];
  report_is = ap (λ (t : List ℕ). t ++ bytes) n.report_is ∙ sym (flat_map_more told n.pieces (Told bytes));
  text_is = ap (λ (t : List ℕ). t ++ bytes) n.text_is ∙ sym (flat_map_more shown n.pieces (Told bytes));
  notes = subst (λ (ws : List (List ℕ)). AreNotesOn 2 events ws) (sym (noted_same n.pieces bytes)) n.notes;
}

pub noted_note : (events : List Event) (report text : List ℕ) (at : ℕ) (e : Event) (words : List ℕ) → at ≡ 2 + length events → IsNoteOn at e words → IsNoted events report text
    → IsNoted (events ++ e ∷ []) report (text ++ note_line words)
noted_note events report text at e words counted one n = record {
  pieces = n.pieces ++ Note words ∷ [];
  report_is = n.report_is ∙ sym (append-nil (flat_map told n.pieces)) ∙ sym (flat_map_more told n.pieces (Note words));
  text_is = ap (λ (t : List ℕ). t ++ note_line words) n.text_is ∙ sym (flat_map_more shown n.pieces (Note words));
  notes = subst (λ (ws : List (List ℕ)). AreNotesOn 2 (events ++ e ∷ []) ws) (sym (noted_more n.pieces words))
      (are_notes_more 2 events (flat_map noted n.pieces) e words n.notes (subst (λ k. IsNoteOn k e words) counted one));
}

-- what holds of each element holds with one more of which it holds
pub all_more : {X : Type 0} (P : X → Type 0) (xs : List X) (x : X) → AllByRecursion P xs → P x → AllByRecursion P (xs ++ x ∷ [])
all_more P [] x all holds = (holds, tt)
all_more P (y ∷ ys) x all holds = (all.0, all_more P ys x all.1 holds)

-- what there is of one event more: lines of the report up to this number, and a note
pub noted_event : (lines : List ReportLine) (events : List Event) (at count next : ℕ) (e : Event) (text longer all words : List ℕ)
    → count ≤ next → at ≡ 2 + length events → IsNoteOn at e words
    → longer ≡ text ++ told_lines (slice_range lines count next) → all ≡ longer ++ note_line words
    → IsNoted events (told_lines (take count lines)) text → IsNoted (events ++ e ∷ []) (told_lines (take next lines)) all
noted_event lines events at count next e text longer all words on counted one grew ends before =
    let rest = slice_range lines count next in
    let whole : count + (next - count) ≡ next = omega (on, arith) in
    let split : take next lines ≡ take count lines ++ rest = ap (λ k. take k lines) (sym whole) ∙ take-add count (next - count) lines in
    let told_is : told_lines (take next lines) ≡ told_lines (take count lines) ++ told_lines rest = ap told_lines split ∙ flat_map-append (λ l. line (report_words l)) (take count lines) rest in
    subst (λ (t : List ℕ). IsNoted (events ++ e ∷ []) (told_lines (take next lines)) t) (sym (ends ∙ ap (λ (t : List ℕ). t ++ note_line words) grew))
    (subst (λ (report : List ℕ). IsNoted (events ++ e ∷ []) report ((text ++ told_lines rest) ++ note_line words)) (sym told_is)
    (noted_note events (told_lines (take count lines) ++ told_lines rest) (text ++ told_lines rest) at e words counted one
    (noted_told events (told_lines (take count lines)) text (told_lines rest) before)))

-- the lines of a report that are left, and its end
pub noted_whole : (events : List Event) (report : Reported) (count : ℕ) (text : List ℕ) → IsNoted events (told_lines (take count report.lines)) text
    → IsNoted events (report_text report) (text ++ told_lines (drop count report.lines) ++ line (codes "decided" ∷ decimal (length report.decided) ∷ []) ++ decided_lines 0 report.decided)
noted_whole events report count text before =
    let rest = told_lines (drop count report.lines) in
    let told_is : told_lines (take count report.lines) ++ told_lines (drop count report.lines) ≡ told_lines report.lines = sym (flat_map-append (λ l. line (report_words l)) (take count report.lines) (drop count report.lines)) ∙ ap told_lines (take-append-drop count report.lines) in
    let all : IsNoted events (told_lines report.lines) (text ++ rest) = subst (λ (told_so_far : List ℕ). IsNoted events told_so_far (text ++ rest)) told_is (noted_told events (told_lines (take count report.lines)) text rest before) in
    let counted = line (codes "decided" ∷ decimal (length report.decided) ∷ []) in
    noted_told events (told_lines report.lines ++ counted) (text ++ rest ++ counted) (decided_lines 0 report.decided) (noted_told events (told_lines report.lines) (text ++ rest) counted all)

-- one event more, behind its lines
explained_more : (at k : ℕ) (events : List Event) (shares : List (List ReportLine)) (e : Event) (ls : List ReportLine) (words text : List ℕ) → k ≡ at + length events → AreExplained at events shares text → IsNoteOn k e words
    → AreExplained at (events ++ e ∷ []) (shares ++ ls ∷ []) (text ++ (told_lines ls ++ note_line words))
explained_more at k [] [] e ls words text is none one = (
  words,
  [],
  subst (λ (i : ℕ). IsNoteOn i e words) (omega (arith, is)) one,
  ap (λ (t : List ℕ). t ++ (told_lines ls ++ note_line words)) none ∙ ap (λ (t : List ℕ). told_lines ls ++ t) (sym (append-nil (note_line words))),
  refl,
)
explained_more at k [] (s ∷ ss) e ls words text is never one = absurd never
explained_more at k (x ∷ xs) [] e ls words text is never one = absurd never
explained_more at k (x ∷ xs) (s ∷ ss) e ls words text is (own, rest, first, split, others) one =
    let more = told_lines ls ++ note_line words in (
      own,
      rest ++ more,
      first,
      ap (λ (t : List ℕ). t ++ more) split ∙ append_assoc (told_lines s) (note_line own ++ rest) more ∙ ap (λ (t : List ℕ). told_lines s ++ t) (append_assoc (note_line own) rest more),
      explained_more (at + 1) k xs ss e ls words rest (omega (arith, is)) others one,
    )

-- by any shares, the events before an index are explained
pub record ExplainedSoFar (account : Accounted) (shares : List (List ReportLine)) (index count : ℕ) (text : List ℕ) : Type 0 where
  pub stands : StandsAt shares index count
  pub explained : AreExplained 2 (take index account.schedule.events) (take index shares) text

pub explained_next : (account : Accounted) (shares : List (List ReportLine)) (index at count next : ℕ) (e : Event) (text all words : List ℕ)
    → IsSharedOut account shares → ExplainedSoFar account shares index count text
    → at ≡ index + 2 → index < length account.schedule.events → slice_get account.schedule.events index ≡ Some e → IsNoteOn at e words
    → all ≡ text ++ (told_lines (slice_range account.report.lines count next) ++ note_line words)
    → ((outcome : Outcome) → slice_get account.outcomes (at - 2) ≡ Some outcome → count + lines_told outcome ≤ length account.report.lines → next ≡ count + lines_told outcome)
    → ExplainedSoFar account shares (index + 1) next all
explained_next account shares index at count next e text all words out s line_is within here one grew counted =
    let mine = share_here account shares index count out within s.stands in
    let place : at - 2 ≡ index = omega (arith, line_is) in
    let on : next ≡ count + length mine.share =
    counted mine.outcome (ap (slice_get account.outcomes) place ∙ mine.outcome_here) mine.fits ∙ ap (λ (k : ℕ). count + k) (sym mine.size) in
    let own : all ≡ text ++ (told_lines mine.share ++ note_line words) =
    grew ∙ ap (λ (k : ℕ). text ++ (told_lines (slice_range account.report.lines count k) ++ note_line words)) on
    ∙ ap (λ (ls : List ReportLine). text ++ (told_lines ls ++ note_line words)) mine.lies in
    let size : length (take index account.schedule.events) ≡ index = length-take-le index account.schedule.events (omega (arith, within)) in
    record {
      stands = subst (λ (k : ℕ). StandsAt shares (index + 1) k) (sym on) mine.next;
      explained = subst (λ (t : List ℕ). AreExplained 2 (take (index + 1) account.schedule.events) (take (index + 1) shares) t) (sym own)
          (subst (λ (es : List Event). AreExplained 2 es (take (index + 1) shares) (text ++ (told_lines mine.share ++ note_line words))) (sym (take_next account.schedule.events index e here))
          (subst (λ (ss : List (List ReportLine)). AreExplained 2 (take index account.schedule.events ++ e ∷ []) ss (text ++ (told_lines mine.share ++ note_line words))) (sym (take_next shares index mine.share mine.here))
          (explained_more 2 at (take index account.schedule.events) (take index shares) e mine.share words text (omega (arith, line_is, size)) s.explained one)));
    }

pub explained_end : (account : Accounted) (shares : List (List ReportLine)) (index count : ℕ) (text all : List ℕ)
    → IsSharedOut account shares → ExplainedSoFar account shares index count text → length account.schedule.events ≤ index
    → all ≡ text ++ told_lines (drop count account.report.lines) ++ line (codes "decided" ∷ decimal (length account.report.decided) ∷ []) ++ decided_lines 0 account.report.decided
    → ExplainsEach account shares all
explained_end account shares index count text all out s past is =
    let whole : take index shares ≡ shares = take_all index shares (omega (arith, past, out.one_each)) in
    let none : drop count account.report.lines ≡ [] =
    drop_of_length-le account.report.lines {i = count} (omega (arith, s.stands.count_is, ap length (ap joined whole), ap length out.all)) in
    record {
      explained = text;
      each = subst (λ (es : List Event). AreExplained 2 es shares text) (take_all index account.schedule.events past)
          (subst (λ (ss : List (List ReportLine)). AreExplained 2 (take index account.schedule.events) ss text) whole s.explained);
      whole = is ∙ ap (λ (ls : List ReportLine). text ++ told_lines ls ++ line (codes "decided" ∷ decimal (length account.report.decided) ∷ []) ++ decided_lines 0 account.report.decided) none
          ∙ ap (λ (t : List ℕ). t ++ line (codes "decided" ∷ decimal (length account.report.decided) ∷ []) ++ decided_lines 0 account.report.decided) (append-nil text);
    }

-- the events so far have their notes, and so many lines of the report stand in the text
pub record NotedSoFar (account : Accounted) (index at count : ℕ) (text : List ℕ) : Type 0 where
  pub events : List Event
  pub split : events ++ drop index account.schedule.events ≡ account.schedule.events
  pub counted : length events ≡ index
  pub line_is : at ≡ index + 2
  pub within : count ≤ length account.report.lines
  pub noted : IsNoted events (told_lines (take count account.report.lines)) text
  pub each : (shares : List (List ReportLine)) → IsSharedOut account shares → ExplainedSoFar account shares index count text

pub so_far_none : (account : Accounted) → NotedSoFar account 0 2 0 []
so_far_none account = record { events = []; split = refl; counted = refl; line_is = refl; within = omega arith; noted = noted_none; each = λ shares out. record { stands = stands_first shares; explained = refl } }

pub so_far_more : (account : Accounted) (index at count next : ℕ) (e : Event) (text all : List ℕ) → NotedSoFar account index at count text
    → drop index account.schedule.events ≡ e ∷ drop (index + 1) account.schedule.events → next ≤ length account.report.lines
    → ((events : List Event) → at ≡ 2 + length events → IsNoted events (told_lines (take count account.report.lines)) text → IsNoted (events ++ e ∷ []) (told_lines (take next account.report.lines)) all)
    → index < length account.schedule.events → slice_get account.schedule.events index ≡ Some e
    → ((words : List ℕ) × IsNoteOn at e words × (all ≡ text ++ (told_lines (slice_range account.report.lines count next) ++ note_line words)))
    → ((outcome : Outcome) → slice_get account.outcomes (at - 2) ≡ Some outcome → count + lines_told outcome ≤ length account.report.lines → next ≡ count + lines_told outcome)
    → NotedSoFar account (index + 1) (at + 1) next all
so_far_more account index at count next e text all s first below on inside here (words, one, grew) counts = record {
  events = s.events ++ e ∷ [];
  split = append_assoc s.events (e ∷ []) (drop (index + 1) account.schedule.events) ∙ ap (λ (es : List Event). s.events ++ es) (sym first) ∙ s.split;
  counted = (let l = length-append s.events (e ∷ []) in omega (l, s.counted, arith));
  line_is = omega (s.line_is, arith);
  within = below;
  noted = on s.events (omega (s.line_is, s.counted, arith)) s.noted;
  each = λ shares out. explained_next account shares index at count next e text all words out (s.each shares out) s.line_is inside here one grew counts;
}

pub so_far_whole : (account : Accounted) (index at count : ℕ) (text : List ℕ) → NotedSoFar account index at count text → drop index account.schedule.events ≡ []
    → IsNoted account.schedule.events (told_lines (take count account.report.lines)) text
so_far_whole account index at count text s none =
    subst (λ (es : List Event). IsNoted es (told_lines (take count account.report.lines)) text) (sym (append-nil s.events) ∙ ap (λ (es : List Event). s.events ++ es) (sym none) ∙ s.split) s.noted

pub so_far_end : (account : Accounted) (index at count : ℕ) (text all : List ℕ) → NotedSoFar account index at count text → drop index account.schedule.events ≡ []
    → all ≡ text ++ told_lines (drop count account.report.lines) ++ line (codes "decided" ∷ decimal (length account.report.decided) ∷ []) ++ decided_lines 0 account.report.decided
    → length account.schedule.events ≤ index → IsExplained account all
so_far_end account index at count text all s none is past = record {
  noted = subst (λ (t : List ℕ). IsNoted account.schedule.events (report_text account.report) t) (sym is) (noted_whole account.schedule.events account.report count text (so_far_whole account index at count text s none));
  each = λ shares out. explained_end account shares index count text all out (s.each shares out) past is;
}
