-- What people are told of a refused text: one line, which says where the text is at fault and what is wrong there.
use Rattle.std.specs.Prelude.{◌≡◌, ◌⊎◌, ℕ, zero, suc, ◌+◌, ◌-◌, ◌/◌, ◌%◌, ◌≤◌, ◌==◌, nat_le, nat_lt, Bool, true, false, not, ◌&&◌, if◌then◌else◌, List, [], ◌∷◌, ◌++◌, length, take, drop, codes, decimal}
use Rattle.std.specs.List.{list_all, flat_map, before_first, after_first}
use Rattle.std.specs.Fmt.{digit_glyph}
use Rattle.rr_types.specs.declared.refusal.Refusal.{Refusal}
use Rattle.rr_types.specs.declared.refusal.Refusal.TheVariants.{BadNodes, BadEvent}

-- printable ASCII
abbrev pub is_printable : ℕ → Bool
is_printable b = nat_le 32 b && nat_le b 126

-- how a byte is shown: as it is, or as \x and two hex digits where it isn't printable
abbrev pub shown_byte : ℕ → List ℕ
shown_byte b = if is_printable b then b ∷ [] else 92 ∷ 120 ∷ digit_glyph false (b / 16) ∷ digit_glyph false (b % 16) ∷ []

-- how a word is shown: of more than 80 bytes the first 80, and two points behind them
abbrev pub shown : List ℕ → List ℕ
shown word = if nat_lt 80 (length word) then flat_map shown_byte (take 80 word) ++ codes ".." else flat_map shown_byte word

-- plain words: printable, and without a quotation mark
abbrev pub ArePlain : List ℕ → Type 0
ArePlain words = list_all (λ b. is_printable b && not (b == 34)) words ≡ true

-- the line behind so many others, without its line feed; empty where there are fewer
abbrev pub line_behind : ℕ → List ℕ → List ℕ
line_behind zero bytes = before_first (λ b. b == 10) bytes
line_behind (suc n) bytes = line_behind n (after_first (λ b. b == 10) bytes)

-- the line of this number, from 1
abbrev pub line_at : ℕ → List ℕ → List ℕ
line_at number bytes = line_behind (number - 1) bytes

-- the word at the front of what is left of a line
abbrev pub first_word : List ℕ → List ℕ
first_word left = before_first (λ b. b == 32) left

-- what is said at a place, from which this is left of the line: plain words, or plain words round the word that stands there,
-- which is shown between quotation marks
abbrev pub AreSaid : List ℕ → List ℕ → Type 0
AreSaid left words = ArePlain words ⊎ ((before : List ℕ) × (after : List ℕ) × ArePlain before × ArePlain after
    × (words ≡ before ++ 34 ∷ shown (first_word left) ++ 34 ∷ after))

-- words on a line, which are said at this byte of it, from 1, or at its end
pub record AreOn (line : List ℕ) (column : ℕ) (words : List ℕ) : Type 0 where
  pub first : 1 ≤ column
  pub last : column ≤ length line + 1
  pub said : AreSaid (drop (column - 1) line) words

-- NAME:LINE:COLUMN: WORDS, and a line feed
abbrev pub fault_line : List ℕ → ℕ → ℕ → List ℕ → List ℕ
fault_line name number column words = name ++ 58 ∷ decimal number ++ 58 ∷ decimal column ++ 58 ∷ 32 ∷ words ++ 10 ∷ []

-- the text is such a line, on the line of this number
abbrev pub IsFaultLine : List ℕ → List ℕ → ℕ → List ℕ → Type 0
IsFaultLine name bytes number text = (column : ℕ) × (words : List ℕ) × AreOn (line_at number bytes) column words × (text ≡ fault_line name number column words)

-- what is printed where these bytes are refused as a schedule or a tape
abbrev pub IsTold : List ℕ → List ℕ → Refusal → List ℕ → Type 0
IsTold name bytes BadNodes text = IsFaultLine name bytes 1 text
IsTold name bytes (BadEvent number) text = IsFaultLine name bytes number text
IsTold name bytes _ text = text ≡ []

-- what is printed where these bytes are refused as a script
abbrev pub IsToldOfScript : List ℕ → List ℕ → Refusal → List ℕ → Type 0
IsToldOfScript name bytes (BadEvent number) text = IsFaultLine name bytes number text
IsToldOfScript name bytes _ text = text ≡ []
