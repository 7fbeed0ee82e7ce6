-- The finish of a schedule, told as text, and the status that it ends the program with.
use Rattle.std.specs.Prelude.{◌≡◌, ℕ, zero, suc, Bool, true, false, List, [], ◌∷◌, ◌++◌, Option, codes}
use Rattle.rr_text.specs.ReportTexts.{line}
use Rattle.rr_lively.specs.declared.finish.Ending.{Ending}
use Rattle.rr_lively.specs.declared.finish.Ending.TheVariants.{Finished, Full, Stuck}
use Rattle.rr_lively.specs.Finishes.{IsFinish}
use Rattle.rr_cli.specs.Randoms.{IsDrawnText}

-- the status where a schedule isn't finished, by the status of the printing
abbrev pub unfinished : ℕ → ℕ
unfinished zero = 8
unfinished (suc n) = suc n

-- the status of a finish that was to be printed, by how far it went and the status of its printing
abbrev pub finished_by : Ending → ℕ → ℕ
finished_by Finished printing = printing
finished_by Full printing = unfinished printing
finished_by Stuck printing = unfinished printing

-- the report behind a line `report`; or nothing, for a schedule alone
abbrev pub report_unless : Bool → List ℕ → List ℕ
report_unless true report = []
report_unless false report = line (codes "report" ∷ []) ++ report

-- the text is that of a random schedule, or of a lively one, and its finish: alone, or with a line `report` and the report of
-- the run of both
pub record IsFinishedDraw (alone : Bool) (faults : Option ℕ) (n seed steps : ℕ) (text : List ℕ) : Type 0 where
  pub drawn : List ℕ
  pub added : List ℕ
  pub report : List ℕ
  pub is_drawn : IsDrawnText true faults n seed steps drawn
  pub is_finish : IsFinish drawn added report
  pub told : text ≡ (drawn ++ added) ++ report_unless alone report
