use Rattle.std.proofs.Common.{◌≡◌, ◌+◌, drop}
use Rattle.rr_sim.specs.Clusters.{Cluster, LeadsSpelt}
use Rattle.rr_sim.proofs.simulator.run_events.Given as goal

-- the event at index i stands on line i + 2, and where the events from it on lead, all of them lead
abbrev pub invariant-loop-event : goal.invariant-loop-event
invariant-loop-event l =
    (l.line ≡ l.event-index + 2) × ((end : Cluster) → LeadsSpelt l.line (drop l.event-index l.events) l.cluster end → LeadsSpelt 2 l.events l.initial.cluster end)
