-- How bytes that people gave are printed, so that no control byte comes to a terminal.
use Rattle.std.specs.Prelude.{ℕ, ◌==◌, nat_le, Bool, ◌||◌, if◌then◌else◌, List, [], ◌∷◌}
use Rattle.rr_explain.specs.Faults.{is_printable, shown_byte}

-- printable ASCII, a line feed, and a byte of a letter that isn't ASCII
abbrev pub is_clean : ℕ → Bool
is_clean b = is_printable b || ((b == 10) || nat_le 128 b)

-- a control byte is shown, and any other byte is printed as it is
abbrev pub given_byte : ℕ → List ℕ
given_byte b = if is_clean b then b ∷ [] else shown_byte b
