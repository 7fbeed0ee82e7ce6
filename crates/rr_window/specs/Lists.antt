-- The rule of a window's list, and what a step on it tells.
use Rattle.std.specs.Prelude.{ℕ, ◌≡◌, ◌==◌, true, List, [], ◌∷◌, ◌++◌, length, MatchBool}
use Rattle.logbook.specs.Pages.{Cell, Step, View, Book, Named}
use Rattle.rr_types.specs.declared.command.Command.{Command}

-- the first word is the list's length. A book has two words, of which this one leaves the second at 0
abbrev pub IsCounted : List Cell → List Command → Type 0
IsCounted cells list = cells ≡ (length list, true) ∷ (0, true) ∷ []

-- the first word of this book
abbrev pub head_of : Book → Named
head_of b = record { tracked = true; key = 0; book = b }

-- the command was added to all that had been seen, or the list was longer
abbrev pub Adds : Step Command → View Command ℕ → ℕ → View Command ℕ → Type 0
Adds s v found w = MatchBool (found == s.old) (w.0 ≡ v.0 ++ s.ask ∷ []) (length w.0 ≡ found)

-- a beginning of the list of a window, which has this book
pub record Beginning : Type 0 where
  pub book : Book
  pub list : List Command

abbrev pub beginning : Book → List Command → Beginning
beginning b list = record { book = b; list = list }
