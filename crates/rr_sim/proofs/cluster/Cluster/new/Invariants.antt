use Rattle.std.proofs.Common.{◌≡◌, map}
use Rattle.std.specs.List.{range_with_len}
use Rattle.rr_node.specs.Seats.{new_seat}
use Rattle.rr_sim.proofs.cluster.Cluster.new.Given as goal

-- the nodes so far are those that were never started
abbrev pub invariant-loop-index : goal.invariant-loop-index
invariant-loop-index l = l.seats.items ≡ map (new_seat l.nodes) (range_with_len 0 l.index)
