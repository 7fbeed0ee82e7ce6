-- Views of the run of a schedule or of a tape, and how they end the program.
use Rattle.std.specs.Prelude.{◌≡◌, ◌≢◌, ℕ, zero, suc, List, [], ◌++◌, Option, None, Some}
use Rattle.clap.specs.Kinds.{Kinds}
use Rattle.clap.specs.Words.{Text}
use Rattle.rr_types.specs.declared.refusal.Refusal.{Refusal}
use Rattle.rr_text.specs.Lines.{IsFault}
use Rattle.rr_text.specs.Scheduled.{IsEvent}
use Rattle.rr_text.specs.ScheduleTexts.{event_line}
use Rattle.rr_text.specs.ReportTexts.{report_text}
use Rattle.rr_stream.specs.Streams.{Printing, Reading}
use Rattle.rr_stream.specs.Files.{Readable, file_at, reading_of}
use Rattle.rr_account.specs.Accounts.{Accounted, IsAccountOn}
use Rattle.rr_lively.specs.declared.finish.Ending.{Ending}
use Rattle.rr_lively.specs.Finishes.{IsFinish}
use Rattle.rr_cli.specs.Finishing.{finished_by}
use Rattle.rr_cli.specs.Ends.{EndsBy, EndsOnInput, EndsOnEither, EndsOnTaped, Prints}
use Rattle.rr_words.specs.declared.tasks.FinishView.{FinishView}
use Rattle.rr_words.specs.declared.tasks.FinishView.TheVariants as finished
use Rattle.rr_words.specs.Tasks.{View, Report, Explanation, Finish, Statistics, Comparison, TapeExplanation, TapeStatistics, Task, Viewing}
use Rattle.rr_cli.specs.Refusals.{status_of}
use Rattle.rr_cli.specs.Shown.{Shows}
use Rattle.rr_cli.specs.declared.taped.TapeView.TheVariants.{Account}
use Rattle.rr_cli.specs.declared.taped.TextAs.{TextAs}
use Rattle.rr_cli.specs.declared.taped.TextAs.TheVariants.{Schedule, Tape, Either}
use Rattle.rr_cli.specs.declared.views.Shown.{Shown}
use Rattle.rr_cli.specs.declared.views.Shown.TheVariants as shown

-- what there is to read of a second file behind a first one, which was read whole. What standard input gives behind its end
-- isn't known
abbrev pub left_behind : Option Text → Option Text → Readable → Reading
left_behind None None from = record from.input { remaining = None }
left_behind None (Some path) from = file_at from.files path
left_behind (Some first) second from = reading_of second from

-- the status of a difference that was to be printed, by the status of its printing
abbrev pub different : ℕ → ℕ
different zero = 1
different (suc n) = suc n

-- a view of the run of the schedule that bytes are: a text that shows it is printed; or the bytes are no schedule or memory
-- was wanting, and standard output is as it was
pub data EndsOnShown (how : Shown) (bytes : List ℕ) (status : ℕ) (old new : Printing) : Type 0 where
  viewed : (account : Accounted) (text : List ℕ) → IsAccountOn bytes account → Shows how account text
      → Prints text status old new
      → EndsOnShown how bytes status old new
  refused : (refusal : Refusal) → IsFault IsEvent event_line bytes refusal → status ≡ status_of refusal → new ≡ old → EndsOnShown how bytes status old new

-- a view of bytes that are read so
abbrev pub EndsOnText : TextAs → Shown → List ℕ → ℕ → Printing → Printing → Type 0
EndsOnText Schedule how bytes status old new = EndsOnShown how bytes status old new
EndsOnText Tape how bytes status old new = EndsOnTaped (Account how) bytes status old new
EndsOnText Either how bytes status old new = EndsOnEither (EndsOnShown how) (EndsOnTaped (Account how)) bytes status old new

-- a text shows the account of a schedule and the events that were added to it
pub record ShowsBoth (how : Shown) (bytes added text : List ℕ) : Type 0 where
  pub account : Accounted
  pub is_account : IsAccountOn (bytes ++ added) account
  pub shows : Shows how account text

-- a text tells the finish of a schedule: by the events that were added, or by the report on the schedule of both; or it shows the
-- account of that
abbrev pub TellsFinish : FinishView → List ℕ → List ℕ → List ℕ → List ℕ → Type 0
TellsFinish finished.Events bytes added report text = text ≡ added
TellsFinish finished.Report bytes added report text = text ≡ report
TellsFinish finished.Objects bytes added report text = ShowsBoth shown.Report bytes added text
TellsFinish (finished.Explanation form) bytes added report text = ShowsBoth (shown.Explanation form) bytes added text

-- the finish of the schedule that bytes are: a text that tells it is printed, and where it isn't finished the status says so; or
-- the bytes are no schedule or memory was wanting, and standard output is as it was
pub data EndsOnFinish (what : FinishView) (bytes : List ℕ) (status : ℕ) (old new : Printing) : Type 0 where
  finished_so : (added report text : List ℕ) (ending : Ending) (printing : ℕ) → IsFinish bytes added report
      → TellsFinish what bytes added report text → Prints text printing old new → status ≡ finished_by ending printing
      → EndsOnFinish what bytes status old new
  refused : (refusal : Refusal) → IsFault IsEvent event_line bytes refusal → status ≡ status_of refusal → new ≡ old → EndsOnFinish what bytes status old new

-- a comparison of the report of the schedule that bytes are with a text: they are the same, and nothing is printed; or they
-- differ, and a text on that is printed; or the bytes are no schedule or memory was wanting, and standard output is as it was
pub data EndsOnCompared (bytes text : List ℕ) (status : ℕ) (old new : Printing) : Type 0 where
  same : (account : Accounted) → IsAccountOn bytes account → text ≡ report_text account.report → status ≡ 0
      → new ≡ old
      → EndsOnCompared bytes text status old new
  other : (account : Accounted) (told : List ℕ) (printing : ℕ) → IsAccountOn bytes account
      → text ≢ report_text account.report → Prints told printing old new → status ≡ different printing
      → EndsOnCompared bytes text status old new
  refused : (refusal : Refusal) → IsFault IsEvent event_line bytes refusal → status ≡ status_of refusal → new ≡ old → EndsOnCompared bytes text status old new

-- a view by its words
abbrev pub EndsOnView : View → Readable → Readable → ℕ → Printing → Printing → Type 0
EndsOnView (Report file) from to status old new = EndsOnInput (EndsOnText Schedule shown.Report) (reading_of file from) (reading_of file to) status old new
EndsOnView (Explanation form file) from to status old new =
    EndsOnInput (EndsOnText Schedule (shown.Explanation form)) (reading_of file from) (reading_of file to) status old new
EndsOnView (Finish what file) from to status old new = EndsOnInput (EndsOnFinish what) (reading_of file from) (reading_of file to) status old new
EndsOnView (Statistics form file) from to status old new =
    EndsOnInput (EndsOnText Either (shown.Statistics form)) (reading_of file from) (reading_of file to) status old new
EndsOnView (TapeExplanation form file) from to status old new =
    EndsOnInput (EndsOnText Tape (shown.Explanation form)) (reading_of file from) (reading_of file to) status old new
EndsOnView (TapeStatistics form file) from to status old new =
    EndsOnInput (EndsOnText Tape (shown.Statistics form)) (reading_of file from) (reading_of file to) status old new
EndsOnView (Comparison file report) from to status old new =
    EndsOnInput (λ bytes. EndsOnInput (EndsOnCompared bytes) (left_behind file report from) (reading_of report to))
    (reading_of file from) (reading_of file to) status old new

-- the program with views, by words: a view, or what the program without views does, or no memory even to read them
pub data EndsWithViews (faults : Kinds) (task : Task) (from to : Readable) (status : ℕ) (old new : Printing) : Type 0 where
  by_view : (view : View) → faults ≡ [] → task ≡ Viewing view → EndsOnView view from to status old new → EndsWithViews faults task from to status old new
  by_others : (faults ≡ [] → (view : View) → task ≡ Viewing view → ⊥) → EndsBy faults task from to status old new
      → EndsWithViews faults task from to status old new
  out_of_memory : status ≡ 6 → new ≡ old → EndsWithViews faults task from to status old new
