use Rattle.std.proofs.Common.{◌≡◌}
use Rattle.rr_host.proofs.doing.open_on.Given as goal

abbrev pub invariant-loop : goal.invariant-loop
invariant-loop l = (l.left.nodes ≡ l.fn.opening.nodes) × (l.left.node ≡ l.fn.opening.node)
