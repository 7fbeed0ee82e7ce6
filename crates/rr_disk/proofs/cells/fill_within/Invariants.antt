use Rattle.std.proofs.Common.{◌≡◌, ◌≤◌, ◌++◌, take, drop, vec_len}
use Rattle.rr_disk.specs.Crash.{left_of, loose_count}
use Rattle.rr_disk.specs.Strips.{cells_from, is_loose}
use Rattle.rr_disk.proofs.cells.fill_within.Given as goal

abbrev pub invariant-loop-k : goal.invariant-loop-k
invariant-loop-k l =
    (l.bytes.items ≡ left_of l.fill l.skip (take l.k (cells_from (is_loose l.loose) 0 l.initial.bytes.items)) ++ drop l.k l.initial.bytes.items)
    × (l.count ≡ loose_count (take l.k (cells_from (is_loose l.loose) 0 l.initial.bytes.items)))
    × (l.count ≤ l.k)
    × (vec_len l.bytes ≡ vec_len l.initial.bytes)
    × (l.k ≤ l.high)
