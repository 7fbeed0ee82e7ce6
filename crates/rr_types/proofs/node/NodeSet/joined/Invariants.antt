use Rattle.std.proofs.Common.{◌≡◌, ◌≤◌}
use Rattle.rr_types.specs.Nodes.{joined, joined_below}
use Rattle.rr_types.proofs.node.NodeSet.joined.Given as goal

abbrev pub invariant-loop-left : goal.invariant-loop-left
invariant-loop-left l = (l.left ≤ 7) × (joined_below l.left l.all l.fn.other ≡ joined l.fn.self l.fn.other)

abbrev pub decreases-loop-left : goal.decreases-loop-left
decreases-loop-left l = l.left
