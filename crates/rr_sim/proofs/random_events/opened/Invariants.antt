use Rattle.std.proofs.Common.{◌≡◌, ◌+◌, drop}
use Rattle.rr_sim.specs.Clusters.{Cluster, new_cluster, LeadsSpelt}
use Rattle.rr_sim.specs.Random.{LeadsInMemory}
use Rattle.rr_sim.proofs.random_events.opened.Given as goal

-- the event at index i stands on line i + 2, and where the events from it on lead, all of them lead
abbrev pub invariant-loop-event : goal.invariant-loop-event
invariant-loop-event l =
    (l.line ≡ l.event-index + 2)
    × ((end : Cluster) → LeadsInMemory l.line (drop l.event-index l.events) l.cluster end → LeadsInMemory 2 l.events (new_cluster l.fn.nodes) end)
    × ((end : Cluster) → LeadsSpelt l.line (drop l.event-index l.events) l.cluster end → LeadsSpelt 2 l.events (new_cluster l.fn.nodes) end)
