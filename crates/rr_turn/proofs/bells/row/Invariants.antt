-- A bell stands for each node so far, at its place.
use Rattle.std.proofs.Common.{◌≡◌, ◌≤◌}
use Rattle.std.specs.Prelude.{map, vec_len}
use Rattle.std.specs.List.{range_with_len}
use Rattle.rr_turn.proofs.bells.row.Given as goal

abbrev pub invariant-loop-index : goal.invariant-loop-index
invariant-loop-index l = (l.index ≤ 7) × (vec_len l.bells ≡ l.index) × (map (λ b. b.node) l.bells.items ≡ range_with_len 0 l.index)
