use Rattle.std.proofs.Common.{◌≡◌}
use Rattle.std.specs.List.{flat_map, range_with_len}
use Rattle.rr_sim.specs.Random.{opening_of}
use Rattle.rr_sim.proofs.random_events.openings.Given as goal

-- the openings of the nodes so far
abbrev pub invariant-loop-index : goal.invariant-loop-index
invariant-loop-index l = l.events.items ≡ flat_map opening_of (range_with_len 0 l.index)
