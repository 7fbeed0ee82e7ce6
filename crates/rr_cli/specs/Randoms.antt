-- What the words of `rr random` name.
use Rattle.std.specs.Prelude.{◌≡◌, ℕ, ◌-◌, ◌^◌, ◌≤◌, Bool, true, false, List, Option, None, Some, ◌||◌}
use Rattle.std.specs.Str.Parse.{IsNumeral, digits_value, without_leading_plus}
use Rattle.clap.specs.Words.{Text}
use Rattle.rr_text.specs.Scheduled.{Scheduled}
use Rattle.rr_text.specs.ScheduleTexts.{schedule_text}
use Rattle.rr_sim.specs.Random.{IsRandom}
use Rattle.rr_sim.specs.Told.{IsRandomRun}
use Rattle.rr_lively.specs.Lively.{IsLively, IsLivelySchedule}
use Rattle.rr_words.specs.Tasks.{RandomWords}
use Rattle.rr_words.specs.declared.tasks.Form.{Form}
use Rattle.rr_words.specs.declared.tasks.Form.TheVariants.{Plain, Json}

-- the text writes this number, which lies in the range; a plus may stand before it
abbrev pub IsNumberIn : ℕ → ℕ → Text → ℕ → Type 0
IsNumberIn least most text n = IsNumeral 10 (without_leading_plus text) × (digits_value 10 (without_leading_plus text) ≡ n) × (least ≤ n) × (n ≤ most)

-- there is a word, and it writes this number
abbrev pub IsNumberOf : ℕ → ℕ → Option Text → ℕ → Type 0
IsNumberOf least most None n = ⊥
IsNumberOf least most (Some word) n = IsNumberIn least most word n

-- how many steps in a thousand of a lively schedule have a fault, by the word for them: 10 where there is none; a schedule that
-- isn't lively has no such number and no such word
abbrev pub AreFaults : Bool → Option Text → Option ℕ → Type 0
AreFaults false None faults = faults ≡ None
AreFaults false (Some word) faults = ⊥
AreFaults true None faults = faults ≡ Some 10
AreFaults true (Some word) None = ⊥
AreFaults true (Some word) (Some faults) = IsNumberIn 0 1000 word faults

-- a form fits a schedule that is printed itself, finished or alone, unless it is JSON, which is for the report
abbrev pub FitsForm : Bool → Form → Type 0
FitsForm itself Plain = Unit {0}
FitsForm itself Json = itself ≡ false

-- the words write a seed, a number of steps, a number of nodes, and the faults of a lively schedule, and ask for a form that fits
abbrev pub AreNumbers : RandomWords → ℕ → ℕ → ℕ → Option ℕ → Type 0
AreNumbers words seed steps nodes faults =
    IsNumberOf 0 (2 ^ 64 - 1) words.seed seed × IsNumberOf 0 999930 words.steps steps
    × IsNumberOf 1 7 words.nodes nodes × AreFaults words.lively words.faults faults × FitsForm (words.finish || words.alone) words.form

-- the text is that of a random schedule, or of a lively one: alone, or with a line `report` and the report of its run
abbrev pub IsDrawnText : Bool → Option ℕ → ℕ → ℕ → ℕ → List ℕ → Type 0
IsDrawnText true None n seed steps text = (schedule : Scheduled) × IsRandom n seed steps schedule × (text ≡ schedule_text schedule)
IsDrawnText false None n seed steps text = IsRandomRun n seed steps text
IsDrawnText true (Some faults) n seed steps text = IsLivelySchedule n steps text
IsDrawnText false (Some faults) n seed steps text = IsLively n steps text
