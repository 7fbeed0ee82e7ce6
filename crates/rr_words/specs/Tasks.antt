-- What words ask for.
use Rattle.std.specs.Prelude.{List, [], Bool, true, false, ◌||◌, Option, None, Some, codes, if◌then◌else◌, map, option_map, unwrap_or}
use Rattle.std.specs.Option.{option_map_or}
use Rattle.std.specs.Str.{bytes_eq}
use Rattle.clap.specs.Words.{Row, Text, all_of, first_of, subcommand_of}
use Rattle.clap.specs.Kinds.{Kinds}
use Rattle.clap.specs.Faults.{fault_of}
use Rattle.rr_words.specs.Lines.{rr_line}
use Rattle.rr_words.specs.declared.tasks.CutWords as code_words
use Rattle.rr_words.specs.declared.tasks.RandomWords as code_randoms
use Rattle.rr_words.specs.declared.tasks.ShellWords as code_shells
use Rattle.rr_words.specs.declared.tasks.ReplaceWords as code_replaces
use Rattle.rr_words.specs.declared.tasks.FinishView.{FinishView}
use Rattle.rr_words.specs.declared.tasks.FinishView.TheVariants as finished
use Rattle.rr_words.specs.declared.tasks.Form.{Form}
use Rattle.rr_words.specs.declared.tasks.Form.TheVariants.{Plain, Json}
use Rattle.rr_words.specs.declared.tasks.Task as code
use Rattle.rr_words.specs.declared.tasks.Task.TheVariants as read
use Rattle.rr_words.specs.declared.tasks.Exported.{Exported}
use Rattle.rr_words.specs.declared.tasks.Exported.TheVariants as export
use Rattle.rr_words.specs.declared.tasks.View as view
use Rattle.rr_words.specs.declared.tasks.View.TheVariants as shown

-- what is wrong with the words, or asks for help or the version; nothing where they are a command
unfoldable pub faults_of : List Text → Kinds
faults_of words = fault_of rr_line words

-- the name of the subcommand that the words name, and its arguments
unfoldable pub found_in : List Text → Option (Text × List Row)
found_in words = subcommand_of rr_line words

-- the words of a cut: its first line and its last one, its node and its instance; whether requests are never folded; whether it is
-- one of a tape in any case; and whether its picture stands in a page
pub record CutWords : Type 0 where
  pub from : Option Text
  pub to : Option Text
  pub node : Option Text
  pub instance : Option Text
  pub requests : Bool
  pub tape : Bool
  pub html : Bool

-- the words of a random schedule: a seed, a number of steps and a number of nodes, which only wrong words leave out; whether
-- it is lively, and a number of faults, which may be left out; whether it is finished; whether it is printed alone; and how the
-- report is printed
pub record RandomWords : Type 0 where
  pub seed : Option Text
  pub steps : Option Text
  pub nodes : Option Text
  pub lively : Bool
  pub faults : Option Text
  pub finish : Bool
  pub alone : Bool
  pub form : Form

-- the words of a shell: a number of nodes, the folder of their folders, a client, the milliseconds between two ticks and the nodes
-- that are left down, which may be left out; its lines, or none where standard input has them; whether it ends at the first that
-- isn't answered as asked; and whether it answers with JSON
pub record ShellWords : Type 0 where
  pub nodes : Option Text
  pub dir : Option Text
  pub client : Option Text
  pub tick : Option Text
  pub without : Option Text
  pub lines : List Text
  pub strict : Bool
  pub json : Bool

-- the words of a replacement: the folder of the nodes' folders and the node, which only wrong words leave out; the nodes beside it that are
-- left down, and the milliseconds between two ticks, which may be left out; and whether it is only told what would be done
pub record ReplaceWords : Type 0 where
  pub dir : Option Text
  pub node : Option Text
  pub without : Option Text
  pub tick : Option Text
  pub dry : Bool

-- what is shown of the run of the schedule in a file or else in standard input: its report as JSON; or its report with events
-- and reasons; or its finish; or its statistics, also where it is a tape; or where its report isn't the text in a second file or
-- else in standard input; or what is shown of the tape there: its report with events and reasons, or its statistics
pub data View : Type 0 where
  Report : Option Text → View
  Explanation : Form → Option Text → View
  Finish : FinishView → Option Text → View
  Statistics : Form → Option Text → View
  Comparison : Option Text → Option Text → View
  TapeExplanation : Form → Option Text → View
  TapeStatistics : Form → Option Text → View

-- what a command asks for: the report of the schedule in this file or else in standard input; or a view of its run; or the areas
-- of the disk in this folder; or a random schedule by these words; or the audit of the tape in this file or else in standard
-- input; or a run of this number of nodes in threads, over the folders in this folder, by the script in this file, with its tape
-- in this file or none, so many milliseconds between two ticks, these nodes left down, and answers in this form; or a shell by
-- these words; or a sweep of the schedule in this file or else in standard input, with this seed, which only wrong words leave out;
-- or the picture of the schedule in this file or else in standard input, of the cut that these words write; or an opening of the
-- disk in this folder as that of this node of so many, all of which only wrong words leave out, and its areas then; or a replacement by
-- these words; or whether the folders in this folder agree; or the registry that they have decided as a script, or else the decided list, or one of them as JSON
pub data Task : Type 0 where
  Simulate : Option Text → Task
  Viewing : View → Task
  Show : Option Text → Form → Task
  Random : RandomWords → Task
  Audit : Option Text → Form → Task
  Run : Option Text → Option Text → Option Text → Option Text → Option Text → Option Text → Form → Task
  Shell : ShellWords → Task
  Sweep : Option Text → Option Text → Task
  Draw : Option Text → CutWords → Task
  Migrate : Option Text → Option Text → Option Text → Task
  Replace : ReplaceWords → Task
  Verify : Option Text → Form → Task
  Export : Option Text → Exported → Task

-- the file that a word names; none, which stands for standard input, where the word is a hyphen or isn't there
abbrev pub file_of : Option Text → Option Text
file_of None = None
file_of (Some word) = if bytes_eq word (codes "-") then None else Some word

-- whether an option without a text is there
abbrev pub is_set : Text → List Row → Bool
is_set id rows = option_map_or (λ value. bytes_eq value (codes "true")) (first_of id rows) false

-- the words of a cut among these arguments
abbrev pub cut_words_of : List Row → CutWords
cut_words_of rows =
    record {
      from = first_of (codes "FROM") rows;
      to = first_of (codes "TO") rows;
      node = first_of (codes "NODE") rows;
      instance = first_of (codes "INSTANCE") rows;
      requests = is_set (codes "REQUESTS") rows;
      tape = is_set (codes "TAPE") rows;
      html = is_set (codes "HTML") rows;
    }

-- how something is printed, by the option for JSON
abbrev pub form_of : List Row → Form
form_of rows = if is_set (codes "JSON") rows then Json else Plain

-- what sim without reasons asks for: its report for people, or else a view
abbrev pub told_by : Form → Option Text → Task
told_by Plain file = Simulate file
told_by Json file = Viewing (Report file)

-- what is shown of a finish without reasons
abbrev pub finish_by : Form → FinishView
finish_by Plain = finished.Report
finish_by Json = finished.Objects

-- what is shown of a finish: its events alone, or the report with reasons, or the report
abbrev pub finish_view : List Row → FinishView
finish_view rows =
    if is_set (codes "ALONE") rows then finished.Events
    else (if is_set (codes "EXPLAIN") rows then finished.Explanation (form_of rows) else finish_by (form_of rows))

-- what sim asks for of a schedule as it is
abbrev pub told_task : List Row → Task
told_task rows =
    if is_set (codes "EXPLAIN") rows then Viewing (Explanation (form_of rows) (file_of (first_of (codes "FILE") rows)))
    else told_by (form_of rows) (file_of (first_of (codes "FILE") rows))

-- what sim, stats, audit, check, random, run, shell, sweep, draw, migrate, replace, verify and export ask for
abbrev pub simulate_task : List Row → Task
simulate_task rows =
    if is_set (codes "FINISH") rows || is_set (codes "ALONE") rows then Viewing (Finish (finish_view rows) (file_of (first_of (codes "FILE") rows)))
    else told_task rows

abbrev pub stats_task : List Row → Task
stats_task rows =
    if is_set (codes "TAPE") rows then Viewing (TapeStatistics (form_of rows) (file_of (first_of (codes "FILE") rows)))
    else Viewing (Statistics (form_of rows) (file_of (first_of (codes "FILE") rows)))

abbrev pub audit_task : List Row → Task
audit_task rows =
    if is_set (codes "EXPLAIN") rows then Viewing (TapeExplanation (form_of rows) (file_of (first_of (codes "FILE") rows)))
    else Audit (file_of (first_of (codes "FILE") rows)) (form_of rows)

abbrev pub check_task : List Row → Task
check_task rows = Viewing (Comparison (file_of (first_of (codes "FILE") rows)) (file_of (first_of (codes "REPORT") rows)))

abbrev pub random_task : List Row → Task
random_task rows =
    Random (record {
      seed = first_of (codes "SEED") rows;
      steps = first_of (codes "STEPS") rows;
      nodes = first_of (codes "NODES") rows;
      lively = is_set (codes "LIVELY") rows;
      faults = first_of (codes "FAULTS") rows;
      finish = is_set (codes "FINISH") rows;
      alone = is_set (codes "ALONE") rows;
      form = form_of rows;
    })

abbrev pub run_task : List Row → Task
run_task rows =
    Run (first_of (codes "NODES") rows) (first_of (codes "DIR") rows) (first_of (codes "SCRIPT") rows) (first_of (codes "TAPE") rows)
    (first_of (codes "TICK") rows) (first_of (codes "WITHOUT") rows) (form_of rows)

abbrev pub shell_task : List Row → Task
shell_task rows =
    Shell (record {
      nodes = first_of (codes "NODES") rows;
      dir = first_of (codes "DIR") rows;
      client = first_of (codes "CLIENT") rows;
      tick = first_of (codes "TICK") rows;
      without = first_of (codes "WITHOUT") rows;
      lines = unwrap_or (all_of (codes "LINE") rows) [];
      strict = is_set (codes "STRICT") rows;
      json = is_set (codes "JSON") rows;
    })

abbrev pub sweep_task : List Row → Task
sweep_task rows = Sweep (file_of (first_of (codes "FILE") rows)) (first_of (codes "SEED") rows)

abbrev pub draw_task : List Row → Task
draw_task rows = Draw (file_of (first_of (codes "FILE") rows)) (cut_words_of rows)

abbrev pub migrate_task : List Row → Task
migrate_task rows = Migrate (first_of (codes "DIR") rows) (first_of (codes "NODE") rows) (first_of (codes "NODES") rows)

-- the words of a replacement among these arguments
abbrev pub replace_words_of : List Row → ReplaceWords
replace_words_of rows =
    record {
      dir = first_of (codes "DIR") rows;
      node = first_of (codes "NODE") rows;
      without = first_of (codes "WITHOUT") rows;
      tick = first_of (codes "TICK") rows;
      dry = is_set (codes "DRY") rows;
    }

abbrev pub replace_task : List Row → Task
replace_task rows = Replace (replace_words_of rows)

abbrev pub verify_task : List Row → Task
verify_task rows = Verify (first_of (codes "DIR") rows) (form_of rows)

-- what is exported, by whether it is the decided list, and whether it is JSON
abbrev pub exported_by : Bool → Bool → Exported
exported_by false false = export.Claims
exported_by true false = export.List
exported_by false true = export.Names
exported_by true true = export.Commands

abbrev pub export_of : List Row → Exported
export_of rows = exported_by (is_set (codes "LIST") rows) (is_set (codes "JSON") rows)

abbrev pub export_task : List Row → Task
export_task rows = Export (first_of (codes "DIR") rows) (export_of rows)

-- what a subcommand of this name and these arguments asks for, other than shell
abbrev pub other_task_by : Text × List Row → Task
other_task_by p =
    if bytes_eq p.0 (codes "stats") then stats_task p.1
    else (if bytes_eq p.0 (codes "check") then check_task p.1
    else (if bytes_eq p.0 (codes "show") then Show (first_of (codes "DIR") p.1) (form_of p.1)
    else (if bytes_eq p.0 (codes "random") then random_task p.1
    else (if bytes_eq p.0 (codes "audit") then audit_task p.1
    else (if bytes_eq p.0 (codes "run") then run_task p.1
    else (if bytes_eq p.0 (codes "sweep") then sweep_task p.1
    else (if bytes_eq p.0 (codes "draw") then draw_task p.1
    else (if bytes_eq p.0 (codes "migrate") then migrate_task p.1
    else (if bytes_eq p.0 (codes "replace") then replace_task p.1
    else (if bytes_eq p.0 (codes "verify") then verify_task p.1
    else (if bytes_eq p.0 (codes "export") then export_task p.1
    else simulate_task p.1)))))))))))

-- what a subcommand of this name and these arguments asks for
abbrev pub task_by : Text × List Row → Task
task_by p = if bytes_eq p.0 (codes "shell") then shell_task p.1 else other_task_by p

-- what the words ask for
unfoldable pub task_of : List Text → Task
task_of words = option_map_or task_by (found_in words) (Simulate None)

-- the words of a cut that were read so
abbrev pub cut_words_in : code_words.CutWords → CutWords
cut_words_in words =
    record {
      from = option_map (λ s. s.now) words.from;
      to = option_map (λ s. s.now) words.to;
      node = option_map (λ s. s.now) words.node;
      instance = option_map (λ s. s.now) words.instance;
      requests = words.requests;
      tape = words.tape;
      html = words.html;
    }

-- the words of a random schedule that were read so
abbrev pub random_words_in : code_randoms.RandomWords → RandomWords
random_words_in words =
    record {
      seed = option_map (λ s. s.now) words.seed;
      steps = option_map (λ s. s.now) words.steps;
      nodes = option_map (λ s. s.now) words.nodes;
      lively = words.lively;
      faults = option_map (λ s. s.now) words.faults;
      finish = words.finish;
      alone = words.alone;
      form = words.form;
    }

-- the words of a shell that were read so
abbrev pub shell_words_in : code_shells.ShellWords → ShellWords
shell_words_in words =
    record {
      nodes = option_map (λ s. s.now) words.nodes;
      dir = option_map (λ s. s.now) words.dir;
      client = option_map (λ s. s.now) words.client;
      tick = option_map (λ s. s.now) words.tick;
      without = option_map (λ s. s.now) words.without;
      lines = map (λ s. s.now) words.lines.items;
      strict = words.strict;
      json = words.json;
    }

-- the words of a replacement that were read so
abbrev pub replace_words_in : code_replaces.ReplaceWords → ReplaceWords
replace_words_in words =
    record {
      dir = option_map (λ s. s.now) words.dir;
      node = option_map (λ s. s.now) words.node;
      without = option_map (λ s. s.now) words.without;
      tick = option_map (λ s. s.now) words.tick;
      dry = words.dry;
    }

-- what is shown that was read so
abbrev pub view_in : view.View → View
view_in (shown.Report file) = Report (option_map (λ s. s.now) file)
view_in (shown.Explanation f file) = Explanation f (option_map (λ s. s.now) file)
view_in (shown.Finish what file) = Finish what (option_map (λ s. s.now) file)
view_in (shown.Statistics f file) = Statistics f (option_map (λ s. s.now) file)
view_in (shown.Comparison file report) = Comparison (option_map (λ s. s.now) file) (option_map (λ s. s.now) report)
view_in (shown.TapeExplanation f file) = TapeExplanation f (option_map (λ s. s.now) file)
view_in (shown.TapeStatistics f file) = TapeStatistics f (option_map (λ s. s.now) file)

-- what words ask for that were read so
abbrev pub task_in : code.Task → Task
task_in (read.Simulate file) = Simulate (option_map (λ s. s.now) file)
task_in (read.View v) = Viewing (view_in v)
task_in (read.Show folder form) = Show (option_map (λ s. s.now) folder) form
task_in (read.Random words) = Random (random_words_in words)
task_in (read.Audit file form) = Audit (option_map (λ s. s.now) file) form
task_in (read.Run nodes dir script tape tick without form) =
    Run (option_map (λ s. s.now) nodes) (option_map (λ s. s.now) dir) (option_map (λ s. s.now) script)
    (option_map (λ s. s.now) tape) (option_map (λ s. s.now) tick) (option_map (λ s. s.now) without) form
task_in (read.Shell words) = Shell (shell_words_in words)
task_in (read.Sweep file seed) = Sweep (option_map (λ s. s.now) file) (option_map (λ s. s.now) seed)
task_in (read.Draw file words) = Draw (option_map (λ s. s.now) file) (cut_words_in words)
task_in (read.Migrate folder node nodes) = Migrate (option_map (λ s. s.now) folder) (option_map (λ s. s.now) node) (option_map (λ s. s.now) nodes)
task_in (read.Replace words) = Replace (replace_words_in words)
task_in (read.Verify folder form) = Verify (option_map (λ s. s.now) folder) form
task_in (read.Export folder list) = Export (option_map (λ s. s.now) folder) list
