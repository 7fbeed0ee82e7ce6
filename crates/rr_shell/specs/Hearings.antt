-- What is heard of an input: the next line, a line that is too long, or the end.
use Rattle.std.specs.Prelude.{◌≡◌, ◌⊎◌, ℕ, ◌<◌, ◌≤◌, true, not, ◌==◌, List, [], ◌∷◌, ◌++◌, length, Option, None, Some}
use Rattle.std.specs.List.{list_all}
use Rattle.std.specs.Io.KnownBytes.{Consumes, IsAtEnd}
use Rattle.rr_stream.specs.Streams.{Reading}
use Rattle.rr_shell.specs.declared.hearing.Heard.{Heard}
use Rattle.rr_shell.specs.declared.hearing.Heard.TheVariants.{Line, TooLong, End}

-- the next byte was read; or there is none, as the input is at its end
abbrev pub IsNextByte : Reading → Reading → Option ℕ → Type 0
IsNextByte from to None = Consumes from.remaining to.remaining [] × IsAtEnd to.remaining
IsNextByte from to (Some b) = Consumes from.remaining to.remaining (b ∷ [])

-- bytes without a line feed
abbrev pub IsOneLine : List ℕ → Type 0
IsOneLine text = list_all (λ b. not (b == 10)) text ≡ true

-- a line of this text was read, with its line feed, or up to the end of the input
abbrev pub IsLineRead : Reading → Reading → List ℕ → Type 0
IsLineRead from to text =
    IsOneLine text × (Consumes from.remaining to.remaining (text ++ 10 ∷ []) ⊎ (Consumes from.remaining to.remaining text × IsAtEnd to.remaining))

-- a line of some text was read
abbrev pub IsSkipped : Reading → Reading → Type 0
IsSkipped from to = (text : List ℕ) × IsLineRead from to text

-- what is heard: a line of at most 4096 bytes, which is read; a longer one; or nothing, as the input is at its end
abbrev pub Hears : Reading → Reading → Heard → Type 0
Hears from to (Line text) = (length text.items ≤ 4096) × IsLineRead from to text.items
Hears from to TooLong = (text : List ℕ) × (4096 < length text) × IsLineRead from to text
Hears from to End = Consumes from.remaining to.remaining [] × IsAtEnd to.remaining
