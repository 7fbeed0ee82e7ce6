-- The report of a random schedule as JSON.
use Rattle.std.specs.Prelude.{◌≡◌, ℕ, Bool, true, List, Option}
use Rattle.rr_text.specs.Scheduled.{Scheduled}
use Rattle.rr_text.specs.ScheduleTexts.{schedule_text}
use Rattle.rr_text.specs.Reported.{Reported}
use Rattle.rr_json.specs.Objects.{report_objects}
use Rattle.rr_sim.specs.Clusters.{IsOnlyOneIfClean}
use Rattle.rr_sim.specs.Headline.{IsRunOfTheWorld, AgreesWithOneList, KeepsRealTime}
use Rattle.rr_words.specs.declared.tasks.Form.{Form}
use Rattle.rr_words.specs.declared.tasks.Form.TheVariants.{Plain, Json}
use Rattle.rr_cli.specs.Randoms.{IsDrawnText}

-- the text is the report of the run of a random schedule, or of a lively one, as JSON: an object a line. The run is one of
-- the world, agrees with one list of commands in the order of real time, and is the only one if it is clean
pub record AreDrawnObjects (faults : Option ℕ) (n seed steps : ℕ) (text : List ℕ) : Type 0 where
  pub schedule : Scheduled
  pub report : Reported
  pub drawn : IsDrawnText true faults n seed steps (schedule_text schedule)
  pub world : IsRunOfTheWorld schedule.nodes schedule.events report
  pub one_list : AgreesWithOneList schedule.events report
  pub real_time : KeepsRealTime schedule.nodes schedule.events report
  pub clean : IsOnlyOneIfClean schedule.nodes schedule.events report
  pub told : text ≡ report_objects report

-- what is printed of a random schedule in this form
abbrev pub IsDrawnIn : Form → Bool → Option ℕ → ℕ → ℕ → ℕ → List ℕ → Type 0
IsDrawnIn Plain alone faults n seed steps text = IsDrawnText alone faults n seed steps text
IsDrawnIn Json alone faults n seed steps text = AreDrawnObjects faults n seed steps text
