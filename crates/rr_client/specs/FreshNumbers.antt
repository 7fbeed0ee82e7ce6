-- Request numbers that no fact names.
use Rattle.std.specs.Prelude.{ℕ, ◌+◌, max, List, [], ◌∷◌, Option, None, Some}
use Rattle.rr_types.specs.declared.promise.Entry.{Entry}
use Rattle.rr_folders.specs.Requests.{greatest_in}

-- the greater of two numbers, where there are some
abbrev pub greater_of : Option ℕ → Option ℕ → Option ℕ
greater_of None n = n
greater_of (Some m) None = Some m
greater_of (Some m) (Some n) = Some (max m n)

-- the greatest number that the facts of disks name as this client's
abbrev pub greatest_of : ℕ → List (List Entry) → Option ℕ
greatest_of client [] = None
greatest_of client (entries ∷ rest) = greater_of (greatest_in client entries) (greatest_of client rest)

-- the number behind the greatest one; 0 where there is none
abbrev pub behind : Option ℕ → ℕ
behind None = 0
behind (Some n) = n + 1

-- the least number above each that the facts of disks name as this client's
abbrev pub least_free : ℕ → List (List Entry) → ℕ
least_free client promises = behind (greatest_of client promises)
