-- Which bytes make a name, and which a value.
use Rattle.std.specs.Prelude.{ℕ, ◌≤◌, Bool, ◌&&◌, ◌||◌, ◌==◌, nat_le, List, length, IsTrue}
use Rattle.std.specs.List.{list_all}
use Rattle.rr_types.specs.Limits.{max_text}

-- whether a name may have this byte: a to z, 0 to 9, hyphen
abbrev pub is_name_byte : ℕ → Bool
is_name_byte b = (nat_le 97 b && nat_le b 122) || (nat_le 48 b && nat_le b 57) || b == 45

-- whether a value may have this byte
abbrev pub is_value_byte : ℕ → Bool
is_value_byte b = nat_le 33 b && nat_le b 126

-- 1 to 64 bytes that a name may have
pub record IsName (bytes : List ℕ) : Type 0 where
  pub some : 1 ≤ length bytes
  pub short : length bytes ≤ max_text
  pub letters : IsTrue (list_all is_name_byte bytes)

-- at most 64 bytes that a value may have
pub record IsValue (bytes : List ℕ) : Type 0 where
  pub short : length bytes ≤ max_text
  pub letters : IsTrue (list_all is_value_byte bytes)
