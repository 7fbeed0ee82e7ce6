-- It stays a cluster of as many nodes.
use Rattle.std.proofs.Common.{◌≡◌}
use Rattle.rr_folders.proofs.forming.all_of.Given as goal

abbrev pub invariant-loop-index : goal.invariant-loop-index
invariant-loop-index l = l.all.nodes ≡ l.cluster.nodes
