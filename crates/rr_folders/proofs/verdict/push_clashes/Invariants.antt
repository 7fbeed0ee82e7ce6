use Rattle.std.proofs.Common.{◌≡◌, ◌+◌, ◌++◌, drop}
use Rattle.std.specs.List.{AllByRecursion}
use Rattle.rr_folders.specs.Agreement.{clashes_with, Alike}
use Rattle.rr_folders.proofs.verdict.push_clashes.Given as goal

-- the clashes so far and those with what is left make the whole; where all are alike there is none so far
abbrev pub invariant-loop-other : goal.invariant-loop-other
invariant-loop-other l =
    (l.other_place ≡ l.place + 1 + l.other-index)
    × (l.clashes.items ++ clashes_with l.place l.one l.other_place (drop l.other-index l.rest) ≡ l.fn.clashes.items ++ clashes_with l.place l.one (l.place + 1) l.rest)
    × (AllByRecursion (Alike l.one) l.rest → (l.clashes.items ≡ l.fn.clashes.items) × AllByRecursion (Alike l.one) (drop l.other-index l.rest))
