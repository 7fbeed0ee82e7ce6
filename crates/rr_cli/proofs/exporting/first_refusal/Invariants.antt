use Rattle.std.proofs.Common.{drop}
use Rattle.std.specs.List.{AllByRecursion}
use Rattle.rr_cli.specs.Clusters.{HoldsNothing}
use Rattle.rr_cli.proofs.exporting.first_refusal.Given as goal

-- all hold nothing where what is left does
abbrev pub invariant-loop-reading : goal.invariant-loop-reading
invariant-loop-reading l = AllByRecursion HoldsNothing (drop l.reading-index l.readings) → AllByRecursion HoldsNothing l.readings
