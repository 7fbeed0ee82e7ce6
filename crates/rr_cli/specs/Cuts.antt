-- What the words of `rr draw` name.
use Rattle.std.specs.Prelude.{◌≡◌, ◌≤◌, ℕ, ◌-◌, ◌^◌, ◌==◌, Bool, false, not, ◌&&◌, ◌||◌, List, [], ◌∷◌, length, take, codes, Option, None, Some, is_none}
use Rattle.std.specs.Str.{bytes_eq}
use Rattle.clap.specs.Words.{Text}
use Rattle.rr_draw.specs.declared.cut.Cut.{Cut}
use Rattle.rr_cli.specs.Randoms.{IsNumberIn}
use Rattle.rr_words.specs.Tasks.{CutWords}

-- the number in this range that a word writes, or this other one where there is no word
abbrev pub IsNumberOr : ℕ → ℕ → ℕ → Option Text → ℕ → Type 0
IsNumberOr other least most None n = n ≡ other
IsNumberOr other least most (Some word) n = IsNumberIn least most word n

-- the number in this range that a word writes, or none where there is no word
abbrev pub IsNumberIfAny : ℕ → ℕ → Option Text → Option ℕ → Type 0
IsNumberIfAny least most None n = n ≡ None
IsNumberIfAny least most (Some word) None = ⊥
IsNumberIfAny least most (Some word) (Some n) = IsNumberIn least most word n

-- the words write this cut, which doesn't end before it begins. Without a word it begins with line 1, ends with the last line,
-- and has each node and each instance
pub record IsCutBy (words : CutWords) (cut : Cut) : Type 0 where
  pub from : IsNumberOr 1 1 4294967295 words.from cut.from
  pub to : IsNumberOr (2 ^ 64 - 1) 1 4294967295 words.to cut.to
  pub node : IsNumberIfAny 0 6 words.node cut.node
  pub instance : IsNumberIfAny 0 1048575 words.instance cut.instance
  pub requests : cut.requests ≡ words.requests
  pub in_order : cut.from ≤ cut.to

-- with what the element of an event begins
abbrev pub event_mark : List ℕ
event_mark = codes "<g><title>line "

-- whether a picture has an event
abbrev pub has_event : List ℕ → Bool
has_event [] = false
has_event (b ∷ bs) = bytes_eq event_mark (take (length event_mark) (b ∷ bs)) || has_event bs

-- whether a cut leaves out no line, no node and no instance
abbrev pub is_whole : Cut → Bool
is_whole cut = (cut.from == 1 && cut.to == 2 ^ 64 - 1) && (is_none cut.node && is_none cut.instance)

-- whether a cut that leaves something out has left no event in a picture
abbrev pub shows_nothing : Cut → List ℕ → Bool
shows_nothing cut text = not (is_whole cut) && not (has_event text)
