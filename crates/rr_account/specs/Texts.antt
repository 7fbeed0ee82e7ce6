-- Texts in which lines stand beside those of a report.
use Rattle.std.specs.Prelude.{◌≡◌, ℕ, ◌+◌, ◌==◌, if◌then◌else◌, List, [], ◌∷◌, ◌++◌, length, map, codes, decimal}
use Rattle.std.specs.List.{flat_map}
use Rattle.rr_text.specs.declared.event.Event.{Event}
use Rattle.rr_text.specs.declared.report.ReportLine.{ReportLine}
use Rattle.rr_text.specs.ReportTexts.{line, report_words, decided_lines, report_text}
use Rattle.rr_text.specs.ScheduleTexts.{event_text}
use Rattle.rr_account.specs.Accounts.{Accounted, IsSharedOut}

-- a byte as a line has it: a space for a line feed
abbrev pub unbroken : ℕ → ℕ
unbroken byte = if byte == 10 then 32 else byte

-- a note: a line that begins with four spaces
abbrev pub note_line : List ℕ → List ℕ
note_line words = codes "    " ++ map unbroken words ++ 10 ∷ []

-- the lines of a report, without the decided list
abbrev pub told_lines : List ReportLine → List ℕ
told_lines lines = flat_map (λ l. line (report_words l)) lines

-- a note on the event of a line: the line's number, the event's text, and more
abbrev pub IsNoteOn : ℕ → Event → List ℕ → Type 0
IsNoteOn at e words = (more : List ℕ) × (words ≡ codes "line " ++ decimal at ++ codes ": " ++ event_text e ++ more)

-- there is one note on each event, in their order; the first stands on this line
abbrev pub AreNotesOn : ℕ → List Event → List (List ℕ) → Type 0
AreNotesOn at [] [] = Unit {0}
AreNotesOn at [] (words ∷ notes) = ⊥
AreNotesOn at (e ∷ es) [] = ⊥
AreNotesOn at (e ∷ es) (words ∷ notes) = IsNoteOn at e words × AreNotesOn (at + 1) es notes

-- a piece of a text: bytes of a report, or a note
pub data Piece : Type 0 where
  Told : List ℕ → Piece
  Note : List ℕ → Piece

-- what the text has of a piece
abbrev pub shown : Piece → List ℕ
shown (Told bytes) = bytes
shown (Note words) = note_line words

-- what the report has of a piece
abbrev pub told : Piece → List ℕ
told (Told bytes) = bytes
told (Note words) = []

-- the words of a note
abbrev pub noted : Piece → List (List ℕ)
noted (Told bytes) = []
noted (Note words) = words ∷ []

-- a text is a report in whole, with a note on each event between its pieces
pub record IsNoted (events : List Event) (report text : List ℕ) : Type 0 where
  pub pieces : List Piece
  pub report_is : report ≡ flat_map told pieces
  pub text_is : text ≡ flat_map shown pieces
  pub notes : AreNotesOn 2 events (flat_map noted pieces)

-- what a text has of events, of which the first stands on this line: behind the lines of each a note on it
abbrev pub AreExplained : ℕ → List Event → List (List ReportLine) → List ℕ → Type 0
AreExplained at [] [] text = text ≡ []
AreExplained at [] (ls ∷ shares) text = ⊥
AreExplained at (e ∷ es) [] text = ⊥
AreExplained at (e ∷ es) (ls ∷ shares) text =
    (words rest : List ℕ) × IsNoteOn at e words × (text ≡ told_lines ls ++ (note_line words ++ rest)) × AreExplained (at + 1) es shares rest

-- a text is what it has of each event, by these lines of each, and the decided list
pub record ExplainsEach (account : Accounted) (shares : List (List ReportLine)) (text : List ℕ) : Type 0 where
  pub explained : List ℕ
  pub each : AreExplained 2 account.schedule.events shares explained
  pub whole : text
      ≡ explained ++ line (codes "decided" ∷ decimal (length account.report.decided) ∷ []) ++ decided_lines 0 account.report.decided

-- a text is the report of an account in whole, with a note on each event, which stands behind the event's own lines
pub record IsExplained (account : Accounted) (text : List ℕ) : Type 0 where
  pub noted : IsNoted account.schedule.events (report_text account.report) text
  pub each : (shares : List (List ReportLine)) → IsSharedOut account shares → ExplainsEach account shares text
