use Rattle.std.proofs.Common.{◌≡◌, take}
use Rattle.rr_sim.specs.Clusters.{shown}
use Rattle.rr_sim.proofs.cluster.shown.Given as goal

-- the names so far, as a report shows them
abbrev pub invariant-loop-entry : goal.invariant-loop-entry
invariant-loop-entry l = l.bindings.items ≡ shown (take l.entry-index l.entries)
