use Rattle.std.proofs.Common.{◌≡◌, ◌+◌, drop}
use Rattle.rr_sim.specs.Clusters.{first_fault}
use Rattle.rr_sim.proofs.simulator.first_fault.Given as goal

-- no fault so far: the first one is that of what is left
abbrev pub invariant-loop-event : goal.invariant-loop-event
invariant-loop-event l = (l.line ≡ l.event-index + 2) × (first_fault l.nodes 2 l.events ≡ first_fault l.nodes l.line (drop l.event-index l.events))
