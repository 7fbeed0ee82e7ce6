-- The lines of a sweep as text.
use Rattle.std.specs.Prelude.{ℕ, List, ◌∷◌, decimal}
use Rattle.rr_text.specs.ReportTexts.{report_words, line}
use Rattle.rr_sim.specs.declared.sweeping.SweepLine.{SweepLine}
use Rattle.rr_sim.specs.Endings.{number_of}

-- the line of the device call, the number of the ending, and the line of the report
abbrev pub sweep_line : SweepLine → List ℕ
sweep_line l = line (decimal l.line ∷ decimal (number_of l.ending) ∷ report_words l.restart)
