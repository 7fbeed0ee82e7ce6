-- The text of a line of a sweep, put together word by word.
use Rattle.std.proofs.Common.{◌≡◌, List, ℕ, [], ◌∷◌, ◌++◌, decimal, append_assoc, refl}
use Rattle.rr_text.specs.declared.report.ReportLine.{ReportLine}
use Rattle.rr_text.specs.declared.report.ReportLine.TheVariants.{Send, Ack, Restart, Refuse}
use Rattle.rr_text.specs.ReportTexts.{report_words}
use Rattle.rr_text.specs.Words.{spaced}
use Rattle.rr_sim.specs.declared.sweeping.SweepLine.{SweepLine}
use Rattle.rr_sim.specs.Endings.{number_of}
use Rattle.rr_sim.specs.SweepTexts.{sweep_line}

-- a word before those of a line of a report
before_words : (word : List ℕ) (told : ReportLine) → spaced (word ∷ report_words told) ≡ word ++ 32 ∷ spaced (report_words told)
before_words word (Send number message) = refl
before_words word (Ack node request reply) = refl
before_words word (Restart node facts decided bindings) = refl
before_words word (Refuse at refusal) = refl

joined : (old a b words rest : List ℕ) → rest ≡ b ++ 32 ∷ words → ((((old ++ a) ++ 32 ∷ b) ++ 32 ∷ []) ++ words) ++ 10 ∷ [] ≡ old ++ ((a ++ 32 ∷ rest) ++ 10 ∷ [])
joined old a b words rest is = rw is (simp append_assoc)

pub line_pushed : (old : List ℕ) (l : SweepLine) → ((((old ++ decimal l.line) ++ 32 ∷ decimal (number_of l.ending)) ++ 32 ∷ []) ++ spaced (report_words l.restart)) ++ 10 ∷ [] ≡ old ++ sweep_line l
line_pushed old l = joined old (decimal l.line) (decimal (number_of l.ending)) (spaced (report_words l.restart)) (spaced (decimal (number_of l.ending) ∷ report_words l.restart)) (before_words (decimal (number_of l.ending)) l.restart)
