use Rattle.std.proofs.Common.{◌≡◌, length}
use Rattle.std.specs.List.{AllByRecursion}
use Rattle.rr_cli.specs.Clusters.{IsRead}
use Rattle.rr_cli.proofs.folders.read_places.Given as goal

-- so many were read
abbrev pub invariant-loop-place : goal.invariant-loop-place
invariant-loop-place g l = AllByRecursion IsRead l.readings.items × (length l.readings.items ≡ l.place)
