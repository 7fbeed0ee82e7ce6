-- How a run of the program ends: its exit status, and what standard output has taken.
use Rattle.std.specs.Prelude.{◌≡◌, ◌≢◌, ◌⊎◌, ◌<◌, ◌-◌, ◌^◌, ℕ, Bool, true, false, List, [], ◌∷◌, ◌++◌, length, Option, Some, None, codes}
use Rattle.std.specs.List.{flat_map, AllByRecursion}
use Rattle.clap.specs.Kinds.{Kinds, IsAmong}
use Rattle.clap.specs.Words.{Text}
use Rattle.clap.specs.declared.error.kind.ErrorKind.{ErrorKind}
use Rattle.clap.specs.declared.error.kind.ErrorKind.TheVariants.{DisplayHelp, DisplayVersion}
use Rattle.rr_types.specs.declared.refusal.Refusal.{Refusal}
use Rattle.rr_text.specs.Lines.{IsFault}
use Rattle.rr_text.specs.declared.event.Event.{Event}
use Rattle.rr_text.specs.Scheduled.{Scheduled, IsSchedule, IsEvent}
use Rattle.rr_text.specs.ScheduleTexts.{schedule_text, event_line}
use Rattle.rr_text.specs.ReportTexts.{line}
use Rattle.rr_text.specs.Taped.{Taped, IsTape, IsTapeEvent}
use Rattle.rr_text.specs.TapeTexts.{tape_text, tape_line}
use Rattle.rr_audit.specs.Audits as tapes
use Rattle.rr_audit.specs.Audits.{IsTapeRun, StopsAt}
use Rattle.rr_sim.specs.Told.{IsReportOn}
use Rattle.rr_sim.specs.declared.sweeping.SweepLine.{SweepLine}
use Rattle.rr_sim.specs.Sweeps.{IsSweep}
use Rattle.rr_sim.specs.SweepTexts.{sweep_line}
use Rattle.rr_draw.specs.declared.cut.Cut.{Cut}
use Rattle.rr_types.specs.Counts.{Grew}
use Rattle.rr_disk.specs.declared.area.Area.{Area}
use Rattle.rr_stream.specs.Streams.{Printing, Reading, IsPrinted, IsFrontPrinted, AreAllOf}
use Rattle.rr_stream.specs.Files.{Readable, file_at}
use Rattle.rr_journal.specs.declared.inspection.AreaReport.{AreaReport}
use Rattle.rr_journal.specs.Inspect.{Tells, Breaks, inspected}
use Rattle.rr_audit.specs.declared.given.Given.{Given}
use Rattle.rr_cli.specs.Areas.{areas_text, areas_in}
use Rattle.rr_cli.specs.AuditObjects.{yes_object, no_object, no_status}
use Rattle.rr_cli.specs.Randoms.{IsNumberIn, IsNumberOf, AreNumbers}
use Rattle.rr_cli.specs.RandomObjects.{IsDrawnIn}
use Rattle.rr_cli.specs.Cuts.{IsCutBy, shows_nothing}
use Rattle.rr_lively.specs.declared.finish.Ending.{Ending}
use Rattle.rr_cli.specs.Finishing.{finished_by, IsFinishedDraw}
use Rattle.rr_words.specs.Tasks.{CutWords, RandomWords, ReplaceWords, ShellWords, View, Task, Simulate, Viewing, Show, Random, Audit, Run, Shell, Sweep, Draw, Migrate, Replace, Verify, Export}
use Rattle.rr_words.specs.declared.tasks.Exported.{Exported}
use Rattle.rr_words.specs.declared.tasks.Form.{Form}
use Rattle.rr_words.specs.declared.tasks.Form.TheVariants.{Plain, Json}
use Rattle.rr_folders.specs.Judged.{MayStart}
use Rattle.rr_folders.specs.declared.verify_folder.Reading as folder
use Rattle.rr_folders.specs.Agreement.{Agree, AllAlike, HaveOneList, clashes_from, longest_decided}
use Rattle.rr_folders.specs.Texts.{verdict_text}
use Rattle.rr_folders.specs.Sifts.{any_holds}
use Rattle.rr_cli.specs.Clusters.{AreRead, AreExported, HoldsNothing, IsExportOf, form_in, unlike, left_status}
use Rattle.rr_cli.specs.Migrations.{IsUnmigrated}
use Rattle.rr_cli.specs.Refusals.{status_of}
use Rattle.rr_cli.specs.Recognised.{IsScheduleText, IsTextOf, IsNoSchedule, IsNoTape}
use Rattle.rr_cli.specs.Shown.{ShowsTape, IsPictured}
use Rattle.rr_cli.specs.Tapes.{yes_text}
use Rattle.rr_cli.specs.declared.taped.TapeView.{TapeView}
use Rattle.rr_cli.specs.declared.taped.TapeView.TheVariants.{Account, Picture, Page}

-- the status of a stream that failed, by a device or by memory
abbrev pub IsStreamStatus : ℕ → Type 0
IsStreamStatus status = (status ≡ 5) ⊎ (status ≡ 6)

-- a text is printed: standard output has taken it, flushed; or one of its calls failed, and it has taken a front
pub data Prints (text : List ℕ) (status : ℕ) (old new : Printing) : Type 0 where
  printed : status ≡ 0 → IsPrinted old new text → Prints text status old new
  cut_short : IsStreamStatus status → Grew old.faults new.faults → IsFrontPrinted old new text → Prints text status old new

-- a run on these bytes: the report is printed; or the bytes are no schedule or memory was wanting, and standard output
-- is as it was
pub data EndsOn (bytes : List ℕ) (status : ℕ) (old new : Printing) : Type 0 where
  reported : (text : List ℕ) → IsReportOn bytes text → Prints text status old new → EndsOn bytes status old new
  refused : (refusal : Refusal) → IsFault IsEvent event_line bytes refusal → status ≡ status_of refusal
      → new ≡ old
      → EndsOn bytes status old new

-- a yes to a tape of so many events, in this form
abbrev pub yes_in : Form → ℕ → List ℕ
yes_in Plain count = yes_text count
yes_in Json count = yes_object count

-- a no to the event of this number ends with 7: for people standard output is as it was, and else the object of a no is printed
abbrev pub TellsNo : Form → ℕ → ℕ → Printing → Printing → Type 0
TellsNo Plain number status old new = (status ≡ 7) × (new ≡ old)
TellsNo Json number status old new =
    (p : ℕ) × (given : Given) × (printing : ℕ) × Prints (no_object number p given) printing old new × (status ≡ no_status printing)

-- a run on these bytes: they are the text of a tape that is a tape run and agrees with one list, and a yes is printed; or of
-- a tape of which the world doesn't give some event next; or they are no tape or memory was wanting, and standard output is
-- as it was
pub data EndsOnTape (form : Form) (bytes : List ℕ) (status : ℕ) (old new : Printing) : Type 0 where
  agreed : (tape : Taped) → IsTape tape → bytes ≡ tape_text tape → IsTapeRun tape.nodes tape.events
      → tapes.AgreesWithOneList tape.nodes tape.events → Prints (yes_in form (length tape.events)) status old new
      → EndsOnTape form bytes status old new
  stopped : (tape : Taped) (number : ℕ) → IsTape tape → bytes ≡ tape_text tape
      → StopsAt tape.nodes tape.events number → TellsNo form number status old new
      → EndsOnTape form bytes status old new
  no_tape : (refusal : Refusal) → IsFault IsTapeEvent tape_line bytes refusal → status ≡ status_of refusal
      → new ≡ old
      → EndsOnTape form bytes status old new

-- the status where an input can't be read: one of its calls failed or memory was wanting
abbrev pub IsUnread : Reading → Reading → ℕ → Type 0
IsUnread from to status = ((status ≡ 5) × Grew from.faults to.faults) ⊎ (status ≡ 6)

-- a run on an input, be it a file: on all its bytes, in this way; or one of its calls failed or memory was wanting, and standard output
-- is as it was
pub data EndsOnInput (On : List ℕ → ℕ → Printing → Printing → Type 0) (from to : Reading) (status : ℕ)
    (old new : Printing) : Type 0 where
  read : (bytes : List ℕ) → AreAllOf from.remaining bytes → On bytes status old new → EndsOnInput On from to status old new
  unread : status ≡ 5 → Grew from.faults to.faults → new ≡ old → EndsOnInput On from to status old new
  unheld : status ≡ 6 → new ≡ old → EndsOnInput On from to status old new

-- a run on a folder: the text on its areas is printed; or an area is broken, or a device or memory failed or a program runs its node, and
-- standard output is as it was
pub data EndsOnFolder (form : Form) (status : ℕ) (old new : Printing) : Type 0 where
  told : (first second : List ℕ) (of_first of_second : Option AreaReport)
      → inspected first second ≡ Tells of_first of_second → Prints (areas_in form of_first of_second) status old new
      → EndsOnFolder form status old new
  broken : (first second : List ℕ) (area : Area) (offset : ℕ) → inspected first second ≡ Breaks area offset
      → status ≡ 4 → new ≡ old
      → EndsOnFolder form status old new
  failed : IsStreamStatus status → new ≡ old → EndsOnFolder form status old new

-- the migration of a folder: its disk was opened, and the text on its areas is printed; or it was refused, as an area is
-- damaged, a device or memory failed, a program runs its node, or no epoch is left, and standard output is as it was
pub data EndsOnMigration (status : ℕ) (old new : Printing) : Type 0 where
  migrated : (first second : List ℕ) (of_first of_second : Option AreaReport)
      → inspected first second ≡ Tells of_first of_second → Prints (areas_text of_first of_second) status old new
      → EndsOnMigration status old new
  unmigrated : (refusal : Refusal) → IsUnmigrated refusal → status ≡ status_of refusal → new ≡ old → EndsOnMigration status old new

-- the words write a node, a number of nodes, and the node is one of them
abbrev pub AreSeat : Option Text → Option Text → ℕ → ℕ → Type 0
AreSeat of_node of_nodes p n = IsNumberOf 0 6 of_node p × IsNumberOf 1 7 of_nodes n × (p < n)

-- a migration by words: of the folder that they name; or they name none or no node of so many, and standard output is as it was
pub data EndsOnSeat (folder of_node of_nodes : Option Text) (status : ℕ) (old new : Printing) : Type 0 where
  seated : (path : Text) (p n : ℕ) → folder ≡ Some path → AreSeat of_node of_nodes p n
      → EndsOnMigration status old new
      → EndsOnSeat folder of_node of_nodes status old new
  unseated : ((path : Text) (p n : ℕ) → folder ≡ Some path → AreSeat of_node of_nodes p n → ⊥) → status ≡ 2
      → new ≡ old
      → EndsOnSeat folder of_node of_nodes status old new

-- a run on the numbers of a random schedule, which has faults if it is lively, and is printed alone or with the report of its
-- run, finished or as it is drawn, or as the objects of that report; where it isn't finished the status says so. Or memory was
-- wanting, and standard output is as it was
pub data EndsOnRandom (form : Form) (finish alone : Bool) (faults : Option ℕ) (n seed steps : ℕ) (status : ℕ) (old new : Printing) : Type 0 where
  drawn : (text : List ℕ) → finish ≡ false → IsDrawnIn form alone faults n seed steps text → Prints text status old new
      → EndsOnRandom form finish alone faults n seed steps status old new
  finished : (text : List ℕ) (ending : Ending) (printing : ℕ) → finish ≡ true → IsFinishedDraw alone faults n seed steps text
      → Prints text printing old new → status ≡ finished_by ending printing
      → EndsOnRandom form finish alone faults n seed steps status old new
  cut_off : status ≡ 6 → new ≡ old → EndsOnRandom form finish alone faults n seed steps status old new

-- a run on the words of a random schedule: by the numbers that they write, or they write none and standard output is as
-- it was
pub data EndsOnWords (words : RandomWords) (status : ℕ) (old new : Printing) : Type 0 where
  numbered : (seed steps nodes : ℕ) (faults : Option ℕ) → AreNumbers words seed steps nodes faults
      → EndsOnRandom words.form words.finish words.alone faults nodes seed steps status old new
      → EndsOnWords words status old new
  unnumbered : ((seed steps nodes : ℕ) (faults : Option ℕ) → AreNumbers words seed steps nodes faults → ⊥)
      → status ≡ 2 → new ≡ old
      → EndsOnWords words status old new

-- lines of a sweep as text
abbrev pub sweep_text : List SweepLine → List ℕ
sweep_text lines = flat_map sweep_line lines

-- a sweep with this seed on these bytes: they are a schedule, and the lines of its sweep are printed; or memory was wanting or
-- standard output failed, which by then has taken a front of the lines of a front of the events; or there are more events than
-- a sweep takes, or the bytes are no schedule or memory was wanting for reading it, and standard output is as it was
pub data EndsOnSweep (seed : ℕ) (bytes : List ℕ) (status : ℕ) (old new : Printing) : Type 0 where
  swept : (schedule : Scheduled) (lines : List SweepLine) → IsSchedule schedule → bytes ≡ schedule_text schedule
      → IsSweep schedule.nodes schedule.events seed lines → status ≡ 0 → IsPrinted old new (sweep_text lines)
      → EndsOnSweep seed bytes status old new
  broken_off : (schedule : Scheduled) (before after : List Event) (lines : List SweepLine) → IsSchedule schedule
      → bytes ≡ schedule_text schedule → schedule.events ≡ before ++ after → IsSweep schedule.nodes before seed lines
      → IsFrontPrinted old new (sweep_text lines)
      → (status ≡ 6) ⊎ (IsStreamStatus status × Grew old.faults new.faults)
      → EndsOnSweep seed bytes status old new
  too_long : (schedule : Scheduled) → IsSchedule schedule → bytes ≡ schedule_text schedule
      → 999989 < length schedule.events → status ≡ 3 → new ≡ old
      → EndsOnSweep seed bytes status old new
  faulty : (refusal : Refusal) → IsFault IsEvent event_line bytes refusal → status ≡ status_of refusal → new ≡ old
      → EndsOnSweep seed bytes status old new

-- a sweep of an input, by a word that writes its seed; or it writes none, and standard output is as it was
pub data EndsOnSeed (On : (List ℕ → ℕ → Printing → Printing → Type 0) → ℕ → Printing → Printing → Type 0)
    (of_seed : Text) (status : ℕ) (old new : Printing) : Type 0 where
  seeded : (seed : ℕ) → IsNumberIn 0 (2 ^ 64 - 1) of_seed seed → On (EndsOnSweep seed) status old new
      → EndsOnSeed On of_seed status old new
  unseeded : ((seed : ℕ) → IsNumberIn 0 (2 ^ 64 - 1) of_seed seed → ⊥) → status ≡ 2 → new ≡ old
      → EndsOnSeed On of_seed status old new

-- a picture of a cut, or a page with it, is printed; or the cut has left no event in it, and then standard output is as it was and the
-- status is that of wrong words
abbrev pub PrintsCut : Cut → List ℕ → ℕ → Printing → Printing → Type 0
PrintsCut cut text status old new =
    ((shows_nothing cut text ≡ false) × Prints text status old new) ⊎ ((shows_nothing cut text ≡ true) × (status ≡ 2) × (new ≡ old))

-- what is shown of a tape is printed, as its picture is
abbrev pub PrintsShown : TapeView → List ℕ → ℕ → Printing → Printing → Type 0
PrintsShown (Account how) text status old new = Prints text status old new
PrintsShown (Picture cut) text status old new = PrintsCut cut text status old new
PrintsShown (Page cut) text status old new = PrintsCut cut text status old new

-- a picture of this cut of these bytes, or a page with it: it is printed, unless the cut has left no event in it; or the bytes are no
-- schedule or memory was wanting, and standard output is as it was
pub data EndsOnPicture (html : Bool) (cut : Cut) (bytes : List ℕ) (status : ℕ) (old new : Printing) : Type 0 where
  pictured : (text : List ℕ) → IsPictured html cut bytes text → PrintsCut cut text status old new → EndsOnPicture html cut bytes status old new
  unpictured : (refusal : Refusal) → IsFault IsEvent event_line bytes refusal → status ≡ status_of refusal
      → new ≡ old
      → EndsOnPicture html cut bytes status old new

-- what is shown of the tape that bytes are: a text that shows it is printed, unless a cut has left no event in it, as its events are a tape run and agree with one list;
-- or the world doesn't give some event next; or the bytes are no tape or memory was wanting. Unless it is printed, standard output
-- is as it was
pub data EndsOnTaped (what : TapeView) (bytes : List ℕ) (status : ℕ) (old new : Printing) : Type 0 where
  taped : (tape : Taped) (text : List ℕ) → IsTextOf tape bytes → IsTapeRun tape.nodes tape.events
      → tapes.AgreesWithOneList tape.nodes tape.events → ShowsTape what tape text → PrintsShown what text status old new
      → EndsOnTaped what bytes status old new
  strange : (tape : Taped) (number : ℕ) → IsTextOf tape bytes → StopsAt tape.nodes tape.events number → status ≡ 7 → new ≡ old
      → EndsOnTaped what bytes status old new
  untaped : (refusal : Refusal) → IsFault IsTapeEvent tape_line bytes refusal → status ≡ status_of refusal → new ≡ old
      → EndsOnTaped what bytes status old new

-- a run on bytes that are a schedule, or else a tape: in its way; or they are neither or memory was wanting, and standard output is
-- as it was
pub data EndsOnEither (OnSchedule OnTape : List ℕ → ℕ → Printing → Printing → Type 0) (bytes : List ℕ) (status : ℕ)
    (old new : Printing) : Type 0 where
  as_schedule : IsScheduleText bytes → OnSchedule bytes status old new → EndsOnEither OnSchedule OnTape bytes status old new
  as_tape : (tape : Taped) → IsNoSchedule bytes → IsTextOf tape bytes → OnTape bytes status old new
      → EndsOnEither OnSchedule OnTape bytes status old new
  as_neither : IsNoSchedule bytes → IsNoTape bytes → status ≡ 3 → new ≡ old → EndsOnEither OnSchedule OnTape bytes status old new
  unrecognised : status ≡ 6 → new ≡ old → EndsOnEither OnSchedule OnTape bytes status old new

-- what is drawn of a tape: its picture, or a page with it
abbrev pub drawn_of_tape : Bool → Cut → TapeView
drawn_of_tape false cut = Picture cut
drawn_of_tape true cut = Page cut

-- a picture of this cut, or a page with it, of bytes that are read as a tape, or of a schedule or else a tape
abbrev pub EndsOnDrawn : Bool → Bool → Cut → List ℕ → ℕ → Printing → Printing → Type 0
EndsOnDrawn true html cut bytes status old new = EndsOnTaped (drawn_of_tape html cut) bytes status old new
EndsOnDrawn false html cut bytes status old new =
    EndsOnEither (EndsOnPicture html cut) (EndsOnTaped (drawn_of_tape html cut)) bytes status old new

-- a picture of an input, of the cut that words write; or they write none, and standard output is as it was
pub data EndsOnCut (On : (List ℕ → ℕ → Printing → Printing → Type 0) → ℕ → Printing → Printing → Type 0)
    (words : CutWords) (status : ℕ) (old new : Printing) : Type 0 where
  cut_so : (cut : Cut) → IsCutBy words cut → On (EndsOnDrawn words.tape words.html cut) status old new → EndsOnCut On words status old new
  uncut : ((cut : Cut) → IsCutBy words cut → ⊥) → status ≡ 2 → new ≡ old → EndsOnCut On words status old new

-- what was read of folders is printed, over which a start would be refused or not: they agree and it wouldn't, and then what they have
-- decided are beginnings of one list; or they don't, or it would; or memory was wanting, or a program runs the cluster, and standard
-- output is as it was
pub data EndsOnVerification (form : Form) (refused : Bool) (status : ℕ) (old new : Printing) : Type 0 where
  verified : (readings : List folder.Reading) → AreRead readings → Agree readings → HaveOneList readings → MayStart (length readings)
      → Prints (verdict_text (form_in form) readings (clashes_from 0 readings) true) status old new
      → EndsOnVerification form refused status old new
  differing : (readings : List folder.Reading) (printing : ℕ) → AreRead readings → (Agree readings × (refused ≡ false) → ⊥)
      → Prints (verdict_text (form_in form) readings (clashes_from 0 readings) false) printing old new
      → status ≡ unlike printing → EndsOnVerification form refused status old new
  unverified : status ≡ 6 → new ≡ old → EndsOnVerification form refused status old new
  unlocked : IsStreamStatus status → new ≡ old → EndsOnVerification form refused status old new

-- the same, whether a start would be refused or not
abbrev pub EndsOnVerified : Form → ℕ → Printing → Printing → Type 0
EndsOnVerified form status old new = (refused : Bool) × EndsOnVerification form refused status old new

-- the export of folders that are used: no two decide an instance differently, and that of the longest decided list is printed; or two do; or
-- none holds facts and one is refused; or memory was wanting. Unless it is printed, standard output is as it was
pub data EndsOnUsed (what : Exported) (used : List folder.Reading) (status : ℕ) (old new : Printing) : Type 0 where
  exported : (text : List ℕ) → AllAlike used → IsExportOf what (longest_decided used) text → Prints text status old new
      → EndsOnUsed what used status old new
  clashing : (AllAlike used → ⊥) → status ≡ 4 → new ≡ old → EndsOnUsed what used status old new
  unheld_by_all : (refusal : Refusal) → AllByRecursion HoldsNothing used → status ≡ status_of refusal → new ≡ old
      → EndsOnUsed what used status old new
  unexported : status ≡ 6 → new ≡ old → EndsOnUsed what used status old new

-- the export of folders: of those that are used, with a status that tells whether one that holds facts isn't; or some aren't to be used, and the
-- others are no majority; or memory was wanting, or a program runs the cluster, and standard output is as it was
pub data EndsOnExport (what : Exported) (status : ℕ) (old new : Printing) : Type 0 where
  used_so : (used : List folder.Reading) (told : Bool) (ending : ℕ) → AreExported used told → EndsOnUsed what used ending old new
      → status ≡ left_status told ending → EndsOnExport what status old new
  unused : (readings : List folder.Reading) (without : ℕ) → AreRead readings → any_holds without 0 readings ≡ true → status ≡ 5 → new ≡ old
      → EndsOnExport what status old new
  not_locked : IsStreamStatus status → new ≡ old → EndsOnExport what status old new

-- a run on the folder that a word names; or none is named, and standard output is as it was
pub data EndsOnDir (On : ℕ → Printing → Printing → Type 0) (dir : Option Text) (status : ℕ) (old new : Printing) : Type 0 where
  named : (path : Text) → dir ≡ Some path → On status old new → EndsOnDir On dir status old new
  unnamed : dir ≡ None → status ≡ 2 → new ≡ old → EndsOnDir On dir status old new

-- words that are wrong
abbrev pub IsMistake : ErrorKind → Type 0
IsMistake kind = (kind ≢ DisplayHelp) × (kind ≢ DisplayVersion)

-- the text on the version: it names the logic of the kits that the proofs are checked with
abbrev pub version_text : List ℕ
version_text = line (codes "rr 0.1.0, proved with rattle logic dac8208d650f15bf" ∷ [])

-- the lines with which the help ends, behind an empty one
abbrev pub statuses_text : List ℕ
statuses_text =
    10 ∷ codes "Exit status: 0 done, 1 a difference, 2 wrong words, 3 no schedule, 4 a damaged area,\n"
    ++ codes "5 a stream, a file or a device, 6 memory, 7 an audit, 8 no finish, 10 to 18 a strict shell"
    ++ 10 ∷ []

-- the help is printed, which ends with the lines on statuses; or memory was wanting, and standard output is as it was
pub data Helps (status : ℕ) (old new : Printing) : Type 0 where
  helped : (front : List ℕ) → Prints (front ++ statuses_text) status old new → Helps status old new
  unhelped : status ≡ 6 → new ≡ old → Helps status old new

-- a run by words: what they ask for, what is wrong with them, or no memory even to read them
pub data EndsBy (faults : Kinds) (task : Task) (from to : Readable) (status : ℕ) (old new : Printing) : Type 0 where
  mistaken : (kind : ErrorKind) → IsAmong kind faults → IsMistake kind → status ≡ 2 → new ≡ old
      → EndsBy faults task from to status old new
  by_help : (kind : ErrorKind) → IsAmong kind faults → kind ≡ DisplayHelp → Helps status old new
      → EndsBy faults task from to status old new
  by_version : (kind : ErrorKind) → IsAmong kind faults → kind ≡ DisplayVersion
      → Prints version_text status old new
      → EndsBy faults task from to status old new
  out_of_memory : status ≡ 6 → new ≡ old → EndsBy faults task from to status old new
  by_standard_input : faults ≡ [] → task ≡ Simulate None → EndsOnInput EndsOn from.input to.input status old new
      → EndsBy faults task from to status old new
  by_file : (path : Text) → faults ≡ [] → task ≡ Simulate (Some path)
      → EndsOnInput EndsOn (file_at from.files path) (file_at to.files path) status old new
      → EndsBy faults task from to status old new
  by_folder : (path : Text) (form : Form) → faults ≡ [] → task ≡ Show (Some path) form → EndsOnFolder form status old new
      → EndsBy faults task from to status old new
  without_folder : (form : Form) → faults ≡ [] → task ≡ Show None form → status ≡ 2 → new ≡ old → EndsBy faults task from to status old new
  by_numbers : (words : RandomWords) → faults ≡ [] → task ≡ Random words → EndsOnWords words status old new
      → EndsBy faults task from to status old new
  by_tape_in_standard_input : (form : Form) → faults ≡ [] → task ≡ Audit None form
      → EndsOnInput (EndsOnTape form) from.input to.input status old new
      → EndsBy faults task from to status old new
  by_tape_in_a_file : (path : Text) (form : Form) → faults ≡ [] → task ≡ Audit (Some path) form
      → EndsOnInput (EndsOnTape form) (file_at from.files path) (file_at to.files path) status old new
      → EndsBy faults task from to status old new
  by_sweep_of_standard_input : (of_seed : Text) → faults ≡ [] → task ≡ Sweep None (Some of_seed)
      → EndsOnSeed (λ on. EndsOnInput on from.input to.input) of_seed status old new
      → EndsBy faults task from to status old new
  by_sweep_of_a_file : (path of_seed : Text) → faults ≡ [] → task ≡ Sweep (Some path) (Some of_seed)
      → EndsOnSeed (λ on. EndsOnInput on (file_at from.files path) (file_at to.files path)) of_seed status old new
      → EndsBy faults task from to status old new
  without_seed : (file : Option Text) → faults ≡ [] → task ≡ Sweep file None → status ≡ 2 → new ≡ old
      → EndsBy faults task from to status old new
  by_picture_of_standard_input : (words : CutWords) → faults ≡ [] → task ≡ Draw None words
      → EndsOnCut (λ on. EndsOnInput on from.input to.input) words status old new
      → EndsBy faults task from to status old new
  by_picture_of_a_file : (path : Text) (words : CutWords) → faults ≡ [] → task ≡ Draw (Some path) words
      → EndsOnCut (λ on. EndsOnInput on (file_at from.files path) (file_at to.files path)) words status old new
      → EndsBy faults task from to status old new
  by_migration : (folder of_node of_nodes : Option Text) → faults ≡ [] → task ≡ Migrate folder of_node of_nodes
      → EndsOnSeat folder of_node of_nodes status old new
      → EndsBy faults task from to status old new
  by_verification : (dir : Option Text) (form : Form) → faults ≡ [] → task ≡ Verify dir form
      → EndsOnDir (EndsOnVerified form) dir status old new
      → EndsBy faults task from to status old new
  by_export : (dir : Option Text) (what : Exported) → faults ≡ [] → task ≡ Export dir what
      → EndsOnDir (EndsOnExport what) dir status old new
      → EndsBy faults task from to status old new
  without_views : (view : View) → faults ≡ [] → task ≡ Viewing view → status ≡ 2 → new ≡ old
      → EndsBy faults task from to status old new
  without_threads : (nodes dir script tape tick without : Option Text) (form : Form) → faults ≡ []
      → task ≡ Run nodes dir script tape tick without form
      → status ≡ 2 → new ≡ old
      → EndsBy faults task from to status old new
  without_shell : (words : ShellWords) → faults ≡ [] → task ≡ Shell words → status ≡ 2 → new ≡ old
      → EndsBy faults task from to status old new
  without_nodes : (words : ReplaceWords) → faults ≡ [] → task ≡ Replace words → status ≡ 2 → new ≡ old
      → EndsBy faults task from to status old new
