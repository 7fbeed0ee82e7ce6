use Rattle.std.proofs.Common.{◌-◌, ◌≤◌}
use Rattle.rr_turn.specs.Asked.{Ran}
use Rattle.rr_turn.specs.Turns.{rings_from}
use Rattle.rr_turn.proofs.sending.ring_each.Given as goal

abbrev pub invariant-loop-index : goal.invariant-loop-index
invariant-loop-index g l =
    (l.index ≤ 7)
    × ((end : _) → Ran g.L.Links.gives (rings_from (7 - l.index) l.index l.nodes) l.links end → Ran g.L.Links.gives (rings_from 7 0 l.nodes) l.fn.links end)
