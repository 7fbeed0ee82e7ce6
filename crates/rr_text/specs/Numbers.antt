-- Which words are numbers in decimal.
use Rattle.std.specs.Prelude.{ℕ, ◌==◌, nat_le, Bool, false, not, ◌&&◌, List, [], ◌∷◌}
use Rattle.std.specs.List.{list_all}

-- a digit
abbrev pub is_digit : ℕ → Bool
is_digit b = nat_le 48 b && nat_le b 57

-- whether a word is a number in decimal, of any length, without a leading zero
abbrev pub is_number : List ℕ → Bool
is_number [] = false
is_number (b ∷ []) = list_all is_digit (b ∷ [])
is_number (b ∷ c ∷ w) = not (b == 48) && list_all is_digit (b ∷ c ∷ w)
