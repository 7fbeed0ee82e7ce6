use Rattle.std.proofs.Common.{◌≡◌, [], map}
use Rattle.std.specs.List.{range_with_len}
use Rattle.rr_model.specs.NodeStep.{started}
use Rattle.rr_audit.proofs.replay.all_nodes.Given as goal

-- the nodes so far
abbrev pub invariant-loop-index : goal.invariant-loop-index
invariant-loop-index l = l.all.items ≡ map (λ p. started l.nodes p [] 0) (range_with_len 0 l.index)
