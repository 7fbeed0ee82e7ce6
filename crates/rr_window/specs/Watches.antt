-- What is told to those who watch a list.
use Rattle.std.specs.Prelude.{◌≡◌, ℕ, ◌-◌, nat_lt, if◌then◌else◌, List, [], ◌∷◌, ◌++◌, length, drop, Option}
use Rattle.logbook.specs.Pages.{Book}
use Rattle.rr_types.specs.declared.command.Command.{Command}
use Rattle.rr_window.specs.declared.change.Change.{Change}
use Rattle.rr_window.specs.Lists.{Beginning, beginning}
use Rattle.rr_window.specs.Changes.{change_of, told, changes_with}

-- how many commands are kept for those who watch
abbrev pub most_kept : ℕ
most_kept = 1024

-- the trace of a command: the list up to and with it, and the change that it makes
pub record Trace : Type 0 where
  pub beginning : Beginning
  pub change : Option Change

-- the trace of a command behind a list
abbrev pub trace_of : Book → List Command → Command → Trace
trace_of b list c = record { beginning = beginning b (list ++ c ∷ []); change = change_of list c }

-- the traces of commands behind a list
abbrev pub traces_of : Book → List Command → List Command → List Trace
traces_of b list [] = []
traces_of b list (c ∷ cs) = trace_of b list c ∷ traces_of b (list ++ c ∷ []) cs

-- one more trace; the oldest goes where there are as many as are kept
abbrev pub with_trace : List Trace → Trace → List Trace
with_trace traces t = (if nat_lt (length traces) most_kept then traces else drop 1 traces) ++ t ∷ []

-- the traces that are kept of a list: of its last commands
abbrev pub kept_traces : Book → List Command → List Trace
kept_traces b list = drop (length list - most_kept) (traces_of b [] list)

-- what one is told who watched up to one list, and then up to the next: the changes of the commands between
abbrev pub IsWatched : List ℕ → List Command → List Command → List Change → Type 0
IsWatched prefix old new changes = (piece : List Command) × (new ≡ old ++ piece) × (changes ≡ changes_with prefix old piece)

-- the change of a trace, where it is behind so many commands
abbrev pub told_of : List ℕ → ℕ → Trace → List Change
told_of prefix n t = if nat_lt n (length t.beginning.list) then told prefix t.change else []

-- the changes of those traces that are behind so many commands
abbrev pub told_behind : List ℕ → ℕ → List Trace → List Change
told_behind prefix n [] = []
told_behind prefix n (t ∷ ts) = told_of prefix n t ++ told_behind prefix n ts
