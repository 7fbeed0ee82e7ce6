-- How a run in threads ends: the program's exit status, and what standard output has taken.
use Rattle.std.specs.Prelude.{◌≡◌, ℕ, List, [], Option, None, Some, IsSome, MatchBool, codes}
use Rattle.std.specs.Str.{bytes_eq}
use Rattle.clap.specs.Kinds.{Kinds}
use Rattle.clap.specs.Words.{Text}
use Rattle.rr_types.specs.declared.refusal.Refusal.{Refusal}
use Rattle.rr_stream.specs.Streams.{Printing}
use Rattle.rr_stream.specs.Files.{Readable, file_at}
use Rattle.rr_text.specs.declared.answer.Answer.{Answer}
use Rattle.rr_text.specs.Scripted.{Scripted, IsScript}
use Rattle.rr_text.specs.ScriptTexts.{script_text}
use Rattle.rr_text.specs.Faults.{IsScriptFault}
use Rattle.rr_cli.specs.Randoms.{IsNumberIn}
use Rattle.rr_cli.specs.Ends.{EndsOnInput, IsStreamStatus, Prints}
use Rattle.rr_cli.specs.Views.{EndsWithViews}
use Rattle.rr_words.specs.Tasks.{ReplaceWords, ShellWords, Task, Run, Replace, Shell}
use Rattle.rr_cli.specs.Refusals.{status_of}
use Rattle.rr_words.specs.declared.tasks.Form.{Form}
use Rattle.rr_run.specs.AnswerObjects.{answers_in}
use Rattle.rr_run.specs.LeavingOut.{left_out_by}
use Rattle.rr_run.specs.Replacings.{EndsOnReplacing}
use Rattle.rr_run.specs.Shells.{EndsOnShellWords}

-- a run in threads, with a file for its tape or none: answers are printed in a form, a line each; or the folders or the run are
-- refused; or there is to be a tape, and an area is formatted or the tape can't be written. Without answers standard output
-- is as it was
pub data EndsOnFolders (form : Form) (tape : Option Text) (status : ℕ) (old new : Printing) : Type 0 where
  answered : (answers : List Answer) → Prints (answers_in form answers) status old new → EndsOnFolders form tape status old new
  refused : (refusal : Refusal) → status ≡ status_of refusal → new ≡ old → EndsOnFolders form tape status old new
  stale : IsSome tape → status ≡ 2 → new ≡ old → EndsOnFolders form tape status old new
  unwritten : IsSome tape → IsStreamStatus status → new ≡ old → EndsOnFolders form tape status old new

-- a run of n nodes on the bytes of a script: in threads; or the bytes are no script for n nodes, and standard output is as
-- it was
pub data EndsOnScript (form : Form) (n : ℕ) (tape : Option Text) (bytes : List ℕ) (status : ℕ) (old new : Printing) : Type 0 where
  asked : (script : Scripted) → IsScript script → script.nodes ≡ n → bytes ≡ script_text script.lines
      → EndsOnFolders form tape status old new
      → EndsOnScript form n tape bytes status old new
  faulty : (refusal : Refusal) → IsScriptFault n bytes refusal → status ≡ status_of refusal → new ≡ old
      → EndsOnScript form n tape bytes status old new

-- a run on what a word names: on the input where it is a hyphen, else on a file, and the input is left alone
abbrev pub EndsOnNamed : Text → (List ℕ → ℕ → Printing → Printing → Type 0) → Readable → Readable → ℕ → Printing → Printing → Type 0
EndsOnNamed word On from to status old new =
    MatchBool (bytes_eq word (codes "-")) (EndsOnInput On from.input to.input status old new)
    ((to.input ≡ from.input) × EndsOnInput On (file_at from.files word) (file_at to.files word) status old new)

-- a run by words: of the number of nodes that a word names, without nodes that a word names, by a script that is read; or there is no
-- such number from 1 to 7; or the word for nodes to be left out is no list of these nodes
pub data EndsOnRun (form : Form) (of_nodes script : Text) (tape without : Option Text) (from to : Readable) (status : ℕ) (old new : Printing) : Type 0 where
  numbered : (n left : ℕ) → IsNumberIn 1 7 of_nodes n → left_out_by n without ≡ Some left
      → EndsOnNamed script (EndsOnScript form n tape) from to status old new
      → EndsOnRun form of_nodes script tape without from to status old new
  unnumbered : ((n : ℕ) → IsNumberIn 1 7 of_nodes n → ⊥) → status ≡ 2 → to.input ≡ from.input → new ≡ old
      → EndsOnRun form of_nodes script tape without from to status old new
  unleft : (n : ℕ) → IsNumberIn 1 7 of_nodes n → left_out_by n without ≡ None → status ≡ 2 → to.input ≡ from.input → new ≡ old
      → EndsOnRun form of_nodes script tape without from to status old new

-- words that ask for a run, and say all that has to be said of it
pub record AsksForRun (task : Task) : Type 0 where
  pub nodes : Text
  pub dir : Text
  pub script : Text
  pub tape : Option Text
  pub tick : Option Text
  pub without : Option Text
  pub form : Form
  pub is : task ≡ Run (Some nodes) (Some dir) (Some script) tape tick without form

-- whether words ask for nodes in threads, and say all that has to be said of them
abbrev pub AsksForThreads : Task → Type 0
AsksForThreads (Run (Some nodes) (Some dir) (Some script) tape tick without form) = Unit {0}
AsksForThreads (Shell words) = Unit {0}
AsksForThreads (Replace words) = Unit {0}
AsksForThreads task = ⊥

-- the program with threads, by words: a run, or a shell, or a replacement, which leaves the input alone, or what the program without threads does, or no memory even to read them
pub data EndsWithThreads (faults : Kinds) (task : Task) (from to : Readable) (status : ℕ) (old new : Printing) : Type 0 where
  by_script : (asks : AsksForRun task) → faults ≡ [] → EndsOnRun asks.form asks.nodes asks.script asks.tape asks.without from to status old new
      → EndsWithThreads faults task from to status old new
  by_shell : (words : ShellWords) → task ≡ Shell words → faults ≡ [] → EndsOnShellWords words from.input to.input status old new
      → EndsWithThreads faults task from to status old new
  by_replacing : (words : ReplaceWords) → task ≡ Replace words → faults ≡ [] → to.input ≡ from.input → EndsOnReplacing words status old new
      → EndsWithThreads faults task from to status old new
  by_others : (faults ≡ [] → AsksForThreads task → ⊥) → EndsWithViews faults task from to status old new → EndsWithThreads faults task from to status old new
  out_of_memory : status ≡ 6 → new ≡ old → EndsWithThreads faults task from to status old new
