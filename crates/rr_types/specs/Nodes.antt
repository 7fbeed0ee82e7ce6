-- Sets of nodes as numbers.
use Rattle.std.specs.Prelude.{ℕ, zero, suc, ◌+◌, ◌-◌, ◌/◌, ◌%◌, ◌^◌, Bool, ◌==◌, if◌then◌else◌}
use Rattle.rr_types.specs.Limits.{max_nodes}

-- whether a set of nodes has node p: the set is a number, in which node p is bit p
abbrev pub has_member : ℕ → ℕ → Bool
has_member set p = (set / 2 ^ p) % 2 == 1

-- the set with node p too
abbrev pub with_member : ℕ → ℕ → ℕ
with_member set p = if has_member set p then set else set + 2 ^ p

-- the set without node p
abbrev pub without_member : ℕ → ℕ → ℕ
without_member set p = if has_member set p then set - 2 ^ p else set

-- the union of two sets of nodes, of which the second is given by its members below count
abbrev pub joined_below : ℕ → ℕ → ℕ → ℕ
joined_below zero a b = a
joined_below (suc q) a b = joined_below q (if has_member b q then with_member a q else a) b

-- two sets of nodes together
unfoldable pub joined : ℕ → ℕ → ℕ
joined a b = joined_below max_nodes a b
