use Rattle.std.proofs.Common.{◌+◌, ◌-◌}
use Rattle.rr_disk.specs.Areas.{Areas, IsTorn}
use Rattle.rr_disk.specs.Failing.{OneByOne, repeated}
use Rattle.rr_disk.proofs.failing.overwrite.Given as goal

abbrev pub invariant-loop-k : goal.invariant-loop-k
invariant-loop-k g l =
    ((final : _) → OneByOne g.D.Disk.write_gives l.area (l.at + l.k) (repeated l.fill l.k (l.count - l.k)) l.disk final → OneByOne g.D.Disk.write_gives l.area l.at (repeated l.fill 0 l.count) l.initial.disk final)
    × (g.D.Disk.tells l.initial.disk → g.D.Disk.tells l.disk)
    × (g.D.Disk.tells l.initial.disk → (start : Areas) → IsTorn l.area l.at l.count start (g.D.Disk.areas l.initial.disk) → IsTorn l.area l.at l.count start (g.D.Disk.areas l.disk))
