-- What standard error gets of a program that ends well: of a run the request numbers of its script that are decided as other commands, and
-- of a shell that a new registry begins.
use Rattle.std.specs.Prelude.{◌≡◌, ℕ, true, false, List, [], ◌∷◌, ◌++◌, Option, None, Some, MatchBool, codes, decimal}
use Rattle.std.specs.List.{flat_map}
use Rattle.std.specs.Str.{bytes_eq}
use Rattle.std.specs.Io.KnownBytes.{Keeps}
use Rattle.clap.specs.Kinds.{Kinds}
use Rattle.clap.specs.Words.{Text}
use Rattle.rr_stream.specs.Streams.{Reading, AreAllOf}
use Rattle.rr_stream.specs.Files.{Readable, file_at}
use Rattle.rr_text.specs.declared.script_line.ScriptLine.{ScriptLine}
use Rattle.rr_text.specs.ScriptTexts.{script_text}
use Rattle.rr_shell.specs.Texts.{used_text}
use Rattle.rr_threads.specs.declared.reused.Reused.{Reused}
use Rattle.rr_threads.specs.Reusing.{are_reused}
use Rattle.rr_folders.specs.declared.judging.Verdict.{Verdict}
use Rattle.rr_folders.specs.Judged.{IsJudged}
use Rattle.rr_folders.specs.Surveys.{begins_by}
use Rattle.rr_words.specs.Tasks.{ShellWords, Task, Shell}
use Rattle.rr_run.specs.Fronts.{GrowsByFront}
use Rattle.rr_run.specs.LeavingOut.{left_out_by}
use Rattle.rr_run.specs.Shells.{IsNodesBy}
use Rattle.rr_run.specs.Runs.{AsksForRun}

-- the line that a request number was already used for another command
abbrev pub reused_line : Reused → List ℕ
reused_line r = codes "rr: " ++ used_text r.command ++ 10 ∷ []

-- standard error gets a line for submits of a script, in its order, each with the other command that its request number was used
-- for, and nothing else
abbrev pub TellsReused : List ScriptLine → Option (List ℕ) → Option (List ℕ) → Type 0
TellsReused lines old new = (told : List Reused) × (are_reused lines told ≡ true) × GrowsByFront old new (flat_map reused_line told)

-- the same, of the script that the bytes are
abbrev pub TellsOfBytes : List ℕ → Option (List ℕ) → Option (List ℕ) → Type 0
TellsOfBytes bytes old new = (lines : List ScriptLine) × (bytes ≡ script_text lines) × TellsReused lines old new

-- the same, of the script that an input has, be it a file
abbrev pub TellsOfInput : Reading → Option (List ℕ) → Option (List ℕ) → Type 0
TellsOfInput from old new = (bytes : List ℕ) × AreAllOf from.remaining bytes × TellsOfBytes bytes old new

-- the same, of the script in the input where a word is a hyphen, else in the file that it names
abbrev pub TellsOfNamed : Text → Readable → Option (List ℕ) → Option (List ℕ) → Type 0
TellsOfNamed word from old new =
    MatchBool (bytes_eq word (codes "-")) (TellsOfInput from.input old new) (TellsOfInput (file_at from.files word) old new)

-- the folder of a shell, by a word
abbrev pub folder_of : Option Text → Text
folder_of None = codes "rr-data"
folder_of (Some dir) = dir

-- the line that a new registry of n nodes begins in a folder
abbrev pub new_line : Text → ℕ → List ℕ
new_line dir n = codes "rr: " ++ (dir ++ (codes ": a new registry, with --nodes " ++ (decimal n ++ 10 ∷ [])))

-- standard error gets that line and nothing else where the folders of n nodes, without those that are left out, were judged to be those of a
-- new registry; and nothing where they were judged otherwise
pub data TellsNew (dir : Text) (n left : ℕ) (old new : Option (List ℕ)) : Type 0 where
  goes_on : (verdict : Verdict) → IsJudged n left verdict → begins_by verdict ≡ false → Keeps old new → TellsNew dir n left old new
  begins : (verdict : Verdict) → IsJudged n left verdict → begins_by verdict ≡ true → GrowsByFront old new (new_line dir n)
      → TellsNew dir n left old new

-- the same, of a shell by words
abbrev pub TellsNewBy : ShellWords → Option (List ℕ) → Option (List ℕ) → Type 0
TellsNewBy words old new =
    (n : ℕ) × (left : ℕ) × IsNodesBy words.nodes n × (left_out_by n words.without ≡ Some left) × TellsNew (folder_of words.dir) n left old new

-- what standard error gets of a program that ends well, by words: of a run what it tells of its script; of a shell that a new registry
-- begins, where one does; else nothing
pub data IsQuiet (faults : Kinds) (task : Task) (from : Readable) (old new : Option (List ℕ)) : Type 0 where
  silent : Keeps old new → IsQuiet faults task from old new
  begun : (words : ShellWords) → task ≡ Shell words → faults ≡ [] → TellsNewBy words old new → IsQuiet faults task from old new
  told : (asks : AsksForRun task) → faults ≡ [] → TellsOfNamed asks.script from old new → IsQuiet faults task from old new
