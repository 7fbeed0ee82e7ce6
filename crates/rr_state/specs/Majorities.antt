-- Whether a set of nodes has a majority.
use Rattle.std.specs.Prelude.{ℕ, Bool, nat_le, length, filter}
use Rattle.std.specs.List.{range_with_len}
use Rattle.rr_types.specs.Nodes.{has_member}
use Rattle.rr_types.specs.Rounds.{majority_of}

-- whether a set has a majority of n nodes
abbrev pub has_majority : ℕ → ℕ → Bool
has_majority n set = nat_le (majority_of n) (length (filter (λ q. has_member set q) (range_with_len 0 n)))
