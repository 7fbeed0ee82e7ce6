-- How a shell ends: what it heard and said, and the program's exit status.
use Rattle.std.specs.Prelude.{◌≡◌, ◌-◌, ◌^◌, ◌≤◌, ℕ, Bool, List, [], ◌∷◌, ◌++◌, Option, None, Some, Result, Ok, Err}
use Rattle.std.specs.List.{flat_map}
use Rattle.clap.specs.Words.{Text}
use Rattle.rr_types.specs.declared.refusal.Refusal.{Refusal}
use Rattle.rr_stream.specs.Streams.{Printing, Reading}
use Rattle.rr_words.specs.Tasks.{ShellWords}
use Rattle.rr_shell.specs.declared.troubles.Trouble.{Trouble}
use Rattle.rr_shell.specs.Troubles.{ending_status}
use Rattle.rr_shell.specs.declared.talking.Stop.{Stop}
use Rattle.rr_shell.specs.Deeds.{Deed}
use Rattle.rr_shell.specs.Talks.{HasTalked, BreaksOff}
use Rattle.rr_cli.specs.Randoms.{IsNumberIn}
use Rattle.rr_cli.specs.Refusals.{status_of}
use Rattle.rr_run.specs.declared.post.AtPost.{AtPost}
use Rattle.rr_run.specs.Boards.{DidBy, any_call}
use Rattle.rr_run.specs.declared.disputes.Failure.{Failure}
use Rattle.rr_run.specs.declared.disputes.Failure.TheVariants.{Refused, Differing}
use Rattle.rr_run.specs.LeavingOut.{left_out_by, IsFirstLeft}

-- the client that a word names; client 0 where there is no word
abbrev pub IsClientBy : Option Text → ℕ → Type 0
IsClientBy None c = c ≡ 0
IsClientBy (Some word) c = IsNumberIn 0 (2 ^ 32 - 1) word c

-- the status of a refusal
abbrev pub IsRefusedBy : ℕ → Type 0
IsRefusedBy status = (refusal : Refusal) × (status ≡ status_of refusal)

-- how many nodes there are by a word; from 1 to 7 where there is no word, as a folder tells it
abbrev pub IsNodesBy : Option Text → ℕ → Type 0
IsNodesBy None n = (1 ≤ n) × (n ≤ 7)
IsNodesBy (Some word) n = IsNumberIn 1 7 word n

-- the status behind a talk, and behind the run beside it, in which something may have failed: where the talk is over, that of a refusal; or
-- 4 for decisions that differ; else 0, or that of the trouble that ended the talk. Where the talk was broken off, that of a refusal
abbrev pub EndsOnTalk : Result (Option Trouble) Stop → Option Failure → ℕ → Type 0
EndsOnTalk (Ok trouble) None status = status ≡ ending_status trouble
EndsOnTalk (Ok trouble) (Some (Refused refusal)) status = status ≡ status_of refusal
EndsOnTalk (Ok trouble) (Some (Differing d)) status = status ≡ 4
EndsOnTalk (Err stop) failed status = IsRefusedBy status

-- what is done for a line of a shell whose board is a post
abbrev pub shell_did : Deed → Type 0
shell_did = DidBy {B = AtPost} any_call

-- a shell over folders, with n nodes, which asks this one first, answers with JSON or not, and ends at trouble or not: a talk that is over,
-- with or without trouble; or one that is over or broken off, and the run, memory or a stream has failed; or it doesn't begin, as the
-- folders or the request numbers are refused, and nothing is read or printed
pub data EndsOnShell (json strict : Bool) (n first : ℕ) (from to : Reading) (status : ℕ) (old new : Printing) : Type 0 where
  talked : (trouble : Option Trouble) → HasTalked shell_did json strict n first from to old new trouble → status ≡ ending_status trouble
      → EndsOnShell json strict n first from to status old new
  failed : (trouble : Option Trouble) → HasTalked shell_did json strict n first from to old new trouble → IsRefusedBy status
      → EndsOnShell json strict n first from to status old new
  broken_off : BreaksOff shell_did json strict n first from old new → IsRefusedBy status → EndsOnShell json strict n first from to status old new
  refused : IsRefusedBy status → to ≡ from → new ≡ old → EndsOnShell json strict n first from to status old new

-- lines as one text, each with a line feed behind it
abbrev pub lines_text : List Text → List ℕ
lines_text = flat_map (λ line. line ++ 10 ∷ [])

-- an input that has this text
abbrev pub input_of : List ℕ → Reading
input_of text = record { remaining = Some text; faults = 0 }

-- a shell over folders that answers these lines; or there is no memory for them
pub data EndsOnLines (json strict : Bool) (n first : ℕ) (lines : List Text) (status : ℕ) (old new : Printing) : Type 0 where
  spoken : (to : Reading) → EndsOnShell json strict n first (input_of (lines_text lines)) to status old new → EndsOnLines json strict n first lines status old new
  unspoken : status ≡ 6 → new ≡ old → EndsOnLines json strict n first lines status old new

-- a shell that answers these lines, and leaves the input alone; or that of the input, where there are none
abbrev pub EndsOnEither : Bool → Bool → ℕ → ℕ → List Text → Reading → Reading → ℕ → Printing → Printing → Type 0
EndsOnEither json strict n first [] from to status old new = EndsOnShell json strict n first from to status old new
EndsOnEither json strict n first (line ∷ lines) from to status old new = (to ≡ from) × EndsOnLines json strict n first (line ∷ lines) status old new

-- a shell by words: of the number of nodes that a word names, for the client that a word names, without nodes that a word names, and first at
-- the lowest of the others; or there are no such numbers; or the word for nodes to be left out is no list of these nodes
pub data EndsOnShellWords (words : ShellWords) (from to : Reading) (status : ℕ) (old new : Printing) : Type 0 where
  numbered : (n c left first : ℕ) → IsNodesBy words.nodes n → IsClientBy words.client c → left_out_by n words.without ≡ Some left
      → IsFirstLeft n left first
      → EndsOnEither words.json words.strict n first words.lines from to status old new
      → EndsOnShellWords words from to status old new
  unnumbered : ((n c : ℕ) → IsNodesBy words.nodes n → IsClientBy words.client c → ⊥) → status ≡ 2 → to ≡ from
      → new ≡ old
      → EndsOnShellWords words from to status old new
  unleft : (n c : ℕ) → IsNodesBy words.nodes n → IsClientBy words.client c → left_out_by n words.without ≡ None → status ≡ 2 → to ≡ from
      → new ≡ old
      → EndsOnShellWords words from to status old new
