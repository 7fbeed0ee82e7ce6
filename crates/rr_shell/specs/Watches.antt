-- What a watch says: each change of a piece of a list, while the next line is heard.
use Rattle.std.specs.Prelude.{◌≡◌, ◌⊎◌, ℕ, Bool, true, false, if◌then◌else◌, List, [], ◌++◌, Option, None, Some}
use Rattle.std.specs.List.{flat_map}
use Rattle.std.specs.Io.KnownBytes.{Appends}
use Rattle.rr_types.specs.declared.command.Command.{Command}
use Rattle.rr_window.specs.declared.change.Change.{Change}
use Rattle.rr_window.specs.declared.change.Change.TheVariants.{Bound, Freed}
use Rattle.rr_window.specs.Changes.{changes_with}
use Rattle.rr_stream.specs.Streams.{Printing, IsPrinted, IsFrontPrinted}
use Rattle.rr_shell.specs.Forms.{watching_said, changed_said, freed_said, late_said}
use Rattle.rr_shell.specs.declared.looking.Looked.{Looked}
use Rattle.rr_shell.specs.declared.watching.Watched.{Watched}
use Rattle.rr_shell.specs.Deeds.{Deed, observes}

-- what names begin with: with anything, where no prefix is asked for
abbrev pub bytes_of : Option (List ℕ) → List ℕ
bytes_of None = []
bytes_of (Some prefix) = prefix

-- these are all changes of names that begin so, each once and in order, that the commands of a piece of a list make
abbrev pub IsPiece : List ℕ → List Change → Type 0
IsPiece prefix changes = (old : List Command) × (piece : List Command) × (changes ≡ changes_with prefix old piece)

-- what is said of a change
abbrev pub change_said : Bool → Change → List ℕ
change_said json (Bound binding) = changed_said json binding
change_said json (Freed name) = freed_said json name

-- what is said of changes, and that more were missed, where that is so
abbrev pub changes_said : Bool → List Change → Bool → List ℕ
changes_said json changes late = flat_map (change_said json) changes ++ (if late then late_said json else [])

-- a text is added, and nothing waits to be flushed where nothing did
abbrev pub IsAdded : Printing → Printing → List ℕ → Type 0
IsAdded old new text = Appends old.contents new.contents text × (old.flushed ≡ true → new.flushed ≡ true)

-- what a look for changes says: what was told since; or that changes were missed
abbrev pub IsLook : Bool → List ℕ → Bool → List Change → List Change → Printing → Printing → Type 0
IsLook json prefix true before after old new =
    IsPiece prefix after × (changes : List Change) × (after ≡ before ++ changes) × IsAdded old new (flat_map (change_said json) changes)
IsLook json prefix false before after old new = IsAdded old new (late_said json)

-- nothing is looked for any more: changes were missed, or the next line was heard before the last look
abbrev pub IsOver : Looked → Type 0
IsOver l = (l.goes_on ≡ false) ⊎ (l.is_last ≡ true)

-- the changes of names that begin so are said, of a piece of a list, until some were missed, where they were
abbrev pub IsToldOf : Bool → List ℕ → Printing → Printing → Type 0
IsToldOf json prefix old new = (changes : List Change) × (late : Bool) × IsPiece prefix changes × IsAdded old new (changes_said json changes late)

-- what is shown while a line is heard where node p is asked: nothing, where nothing is watched; or that a watch has begun, which it has at
-- node p, and the changes of a piece of a list, until some were missed, where they were
abbrev pub IsShown : (Deed → Type 0) → Bool → ℕ → Option Watched → Printing → Printing → Type 0
IsShown Did json p None old new = new ≡ old
IsShown Did json p (Some w) old new =
    Did (observes p w.prefix) × (changes : List Change) × (late : Bool) × IsPiece (bytes_of w.prefix) changes
    × IsPrinted old new (watching_said json ++ changes_said json changes late)

-- a front of some text was printed
abbrev pub IsFrontSaid : Printing → Printing → Type 0
IsFrontSaid old new = (said : List ℕ) × IsFrontPrinted old new said
