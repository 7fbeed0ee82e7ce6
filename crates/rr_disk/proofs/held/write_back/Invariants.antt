use Rattle.std.proofs.Common.{◌-◌, ◌≤◌, Bool}
use Rattle.rr_disk.specs.Asked.{WritesBack}
use Rattle.rr_disk.proofs.held.write_back.Given as goal

abbrev pub invariant-loop-at : goal.invariant-loop-at
invariant-loop-at g l =
    ((whole : Bool) (final : _) → WritesBack g.F.AreaFile.gives l.len whole l.at l.file final → WritesBack g.F.AreaFile.gives l.len whole 0 l.initial.file final)
    × (l.at ≤ l.len)

abbrev pub decreases-loop-at : goal.decreases-loop-at
decreases-loop-at g l = l.len - l.at
