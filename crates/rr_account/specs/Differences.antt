-- Where two texts differ first.
use Rattle.std.specs.Prelude.{◌≡◌, ◌≢◌, ℕ, zero, suc, List, [], ◌∷◌, ◌++◌, Option, None, Some}
use Rattle.rr_text.specs.Reading.{cut_at}

-- the first line of a text that is cut so at its first line feed: with that, or all of the text where there is none
abbrev pub line_by : List ℕ → Option (List ℕ × List ℕ) → List ℕ
line_by text None = text
line_by text (Some (line, behind)) = line ++ 10 ∷ []

-- the first line of a text; one that has ended has none
abbrev pub first_line : List ℕ → Option (List ℕ)
first_line [] = None
first_line (b ∷ bs) = Some (line_by (b ∷ bs) (cut_at 10 (b ∷ bs)))

-- what stands behind it, of a text that is cut so
abbrev pub rest_by : Option (List ℕ × List ℕ) → List ℕ
rest_by None = []
rest_by (Some (line, behind)) = behind

-- a text behind its first lines, so many
abbrev pub behind : ℕ → List ℕ → List ℕ
behind zero text = text
behind (suc k) text = rest_by (cut_at 10 (behind k text))

-- two texts are the same in their first lines, so many
abbrev pub are_alike : ℕ → List ℕ → List ℕ → Type 0
are_alike zero ours theirs = Unit {0}
are_alike (suc k) ours theirs = are_alike k ours theirs × (first_line (behind k ours) ≡ first_line (behind k theirs))

-- two texts differ first in the line of this number, from 1, as each of them has it
abbrev pub DifferIn : List ℕ → List ℕ → ℕ → Option (List ℕ) → Option (List ℕ) → Type 0
DifferIn ours theirs line own other =
    (k : ℕ) × (line ≡ suc k) × are_alike k ours theirs × (own ≡ first_line (behind k ours)) × (other ≡ first_line (behind k theirs)) × (own ≢ other)
