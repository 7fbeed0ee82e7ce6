use Rattle.std.proofs.Common.{◌≡◌, ◌≤◌}
use Rattle.rr_types.specs.Nodes.{has_member}
use Rattle.rr_model.specs.Lawful.{count_below}
use Rattle.rr_account.proofs.decisions.is_majority.Given as goal

-- the count is of the nodes so far
abbrev pub invariant-loop-index : goal.invariant-loop-index
invariant-loop-index l = (l.count ≡ count_below (has_member l.fn.set) l.index) × (l.count ≤ l.index)
