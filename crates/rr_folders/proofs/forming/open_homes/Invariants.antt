use Rattle.std.proofs.Common.{◌≡◌, ◌≤◌, length, map}
use Rattle.rr_folders.specs.Judging.{AreLeftOut}
use Rattle.rr_folders.proofs.forming.open_homes.Given as goal

-- each node so far has its disk, or is left out
abbrev pub invariant-loop-index : goal.invariant-loop-index
invariant-loop-index g l = (length l.homes.items ≡ l.index) × (l.index ≤ l.index-end) × AreLeftOut l.without 0 (map (λ h. h.disk) l.homes.items)
