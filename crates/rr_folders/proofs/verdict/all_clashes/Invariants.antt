use Rattle.std.proofs.Common.{◌≡◌, ◌+◌, ◌++◌, [], length}
use Rattle.rr_folders.specs.Agreement.{clashes_from, AllAlike}
use Rattle.rr_folders.proofs.verdict.all_clashes.Given as goal

-- the clashes so far and those of what is left; where all are alike there is none so far
abbrev pub invariant-loop-one : goal.invariant-loop-one
invariant-loop-one l =
    (l.place + length l.rest ≡ length l.readings)
    × (l.clashes.items ++ clashes_from l.place l.rest ≡ clashes_from 0 l.readings)
    × (AllAlike l.readings → (l.clashes.items ≡ []) × AllAlike l.rest)

abbrev pub decreases-loop-one : goal.decreases-loop-one
decreases-loop-one l = length l.rest
