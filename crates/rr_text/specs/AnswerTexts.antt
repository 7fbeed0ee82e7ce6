-- The text of answers.
use Rattle.std.specs.Prelude.{ℕ, List, [], ◌∷◌, ◌++◌, codes, decimal}
use Rattle.std.specs.List.{flat_map}
use Rattle.rr_text.specs.declared.report.ReportLine.TheVariants as reports
use Rattle.rr_text.specs.Words.{spaced}
use Rattle.rr_text.specs.ReportTexts.{request_text, report_words}
use Rattle.rr_text.specs.declared.answer.Answer.{Answer}
use Rattle.rr_text.specs.declared.answer.Answer.TheVariants.{Acknowledged, Unacknowledged, Free, Bound, Unseen}

-- who has a name, and its value
abbrev pub holding_text : ℕ → List ℕ → List ℕ
holding_text owner value = decimal owner ++ 58 ∷ value

-- a look at a name at node p, and what it saw
abbrev pub look_words : ℕ → List ℕ → List ℕ → List (List ℕ)
look_words p name seen = codes "look" ∷ decimal p ∷ name ∷ seen ∷ []

-- an answer as words: an acknowledgement as a report has it, a request without one, or what a look saw
abbrev pub answer_words : Answer → List (List ℕ)
answer_words (Acknowledged p q r) = report_words (reports.Ack p q r)
answer_words (Unacknowledged p q) = codes "none" ∷ decimal p ∷ request_text q ∷ []
answer_words (Free p name) = look_words p name (codes "free")
answer_words (Bound p name owner value) = look_words p name (holding_text owner value)
answer_words (Unseen p name) = look_words p name (codes "none")

-- the line of an answer: its words, divided by one space, and a line feed
abbrev pub answer_line : Answer → List ℕ
answer_line a = spaced (answer_words a) ++ 10 ∷ []

-- the text of answers: a line each
abbrev pub answer_text : List Answer → List ℕ
answer_text answers = flat_map answer_line answers
