-- How a replacement of a node ends: the program's exit status, and what standard output has taken.
use Rattle.std.specs.Prelude.{◌≡◌, ◌⊎◌, ◌-◌, ℕ, Bool, true, false, List, [], ◌∷◌, ◌++◌, Option, None, Some, codes, decimal}
use Rattle.clap.specs.Words.{Text}
use Rattle.rr_stream.specs.Streams.{Printing}
use Rattle.rr_cli.specs.Ends.{Prints}
use Rattle.rr_cli.specs.Randoms.{IsNumberOf}
use Rattle.rr_words.specs.Tasks.{ReplaceWords}
use Rattle.rr_run.specs.Shells.{IsRefusedBy}

-- a line with the path at which node p's folder is put aside, behind these words; nothing where none is
abbrev pub aside_text : List ℕ → Text → ℕ → Option ℕ → List ℕ
aside_text words dir p None = []
aside_text words dir p (Some k) = words ++ (dir ++ 47 ∷ (decimal p ++ (codes ".replaced-" ++ (decimal k ++ 10 ∷ []))))

-- what is told of node p that was replaced: how many decided commands it has, and where its old folder is
abbrev pub replaced_text : Text → ℕ → ℕ → Option ℕ → List ℕ
replaced_text dir p count aside =
    codes "node " ++ (decimal p ++ (codes " replaced: " ++ (decimal count ++ (codes " decided commands\n" ++ aside_text (codes "moved aside: ") dir p aside))))

-- what is told of node p that would be replaced: how many commands the others have decided, and how many more they have to; and where its
-- folder would be
abbrev pub planned_text : Text → ℕ → ℕ → ℕ → Option ℕ → List ℕ
planned_text dir p decided least aside =
    codes "node "
    ++ (decimal p
    ++ (codes " would be replaced: "
    ++ (decimal decided
    ++ (codes " decided commands, "
    ++ (decimal (least - decided) ++ (codes " more to decide\n" ++ aside_text (codes "would move aside: ") dir p aside))))))

-- the text on a replacement, or on one that would be made
abbrev pub IsTold : Text → ℕ → Bool → List ℕ → Type 0
IsTold dir p false text = (count : ℕ) × (aside : Option ℕ) × (text ≡ replaced_text dir p count aside)
IsTold dir p true text = (decided : ℕ) × (least : ℕ) × (aside : Option ℕ) × (text ≡ planned_text dir p decided least aside)

-- the status where nothing is told: words are wrong, or too little is decided, or folders, the run or memory are refused
abbrev pub IsHalt : ℕ → Type 0
IsHalt status = (status ≡ 2) ⊎ ((status ≡ 8) ⊎ IsRefusedBy status)

-- a replacement by words: what was done, or would be, is told of the node that a word names, in the folder that a word names; or nothing is
pub data EndsOnReplacing (words : ReplaceWords) (status : ℕ) (old new : Printing) : Type 0 where
  told : (dir : Text) (p : ℕ) (text : List ℕ) → words.dir ≡ Some dir → IsNumberOf 0 6 words.node p → IsTold dir p words.dry text
      → Prints text status old new
      → EndsOnReplacing words status old new
  halted : IsHalt status → new ≡ old → EndsOnReplacing words status old new
