-- Which of two kinds of texts bytes are.
use Rattle.std.specs.Prelude.{◌≡◌, ◌≢◌, ℕ, List, Result, Ok, Err}
use Rattle.rr_types.specs.declared.refusal.Refusal.{Refusal}
use Rattle.rr_types.specs.declared.refusal.Refusal.TheVariants.{OutOfMemory}
use Rattle.rr_text.specs.Lines.{IsFault}
use Rattle.rr_text.specs.Scheduled.{Scheduled, IsSchedule, IsEvent}
use Rattle.rr_text.specs.ScheduleTexts.{schedule_text, event_line}
use Rattle.rr_text.specs.Taped.{Taped, IsTape, IsTapeEvent}
use Rattle.rr_text.specs.TapeTexts.{tape_text, tape_line}
use Rattle.rr_cli.specs.Refusals.{status_of}
use Rattle.rr_cli.specs.declared.recognising.Recognised.{Recognised}
use Rattle.rr_cli.specs.declared.recognising.Recognised.TheVariants as are

-- the bytes are the text of a schedule
pub record IsScheduleText (bytes : List ℕ) : Type 0 where
  pub schedule : Scheduled
  pub lawful : IsSchedule schedule
  pub read : bytes ≡ schedule_text schedule

-- the bytes are the text of this tape
pub record IsTextOf (tape : Taped) (bytes : List ℕ) : Type 0 where
  pub lawful : IsTape tape
  pub read : bytes ≡ tape_text tape

-- the bytes are no schedule: they have a fault as one, which isn't that memory is wanting
pub record IsNoSchedule (bytes : List ℕ) : Type 0 where
  pub refusal : Refusal
  pub fault : IsFault IsEvent event_line bytes refusal
  pub other : refusal ≢ OutOfMemory

-- the bytes are no tape
pub record IsNoTape (bytes : List ℕ) : Type 0 where
  pub refusal : Refusal
  pub fault : IsFault IsTapeEvent tape_line bytes refusal
  pub other : refusal ≢ OutOfMemory

-- what bytes are found to be: a schedule; or a tape and no schedule; or neither, with a fault that has the status of bytes that
-- are no schedule; unless memory is wanting
abbrev pub IsRecognised : List ℕ → Result Recognised Refusal → Type 0
IsRecognised bytes (Ok are.Schedule) = IsScheduleText bytes
IsRecognised bytes (Ok (are.Tape tape)) = IsNoSchedule bytes × IsTextOf tape bytes
IsRecognised bytes (Ok (are.Neither kind refusal)) = IsNoSchedule bytes × IsNoTape bytes × (status_of refusal ≡ 3)
IsRecognised bytes (Err refusal) = refusal ≡ OutOfMemory
