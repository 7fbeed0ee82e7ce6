use Rattle.std.proofs.Common.{◌≡◌, ◌≤◌}
use Rattle.rr_model.specs.Lawful.{count_below}
use Rattle.rr_sim.specs.Chosen.{has_ack}
use Rattle.rr_sim.proofs.chosen.is_acked.Given as goal

-- the count is of the nodes so far
abbrev pub invariant-loop-node : goal.invariant-loop-node
invariant-loop-node l = (l.count ≡ count_below (has_ack l.acks l.instance l.round) l.node) × (l.count ≤ l.node)
