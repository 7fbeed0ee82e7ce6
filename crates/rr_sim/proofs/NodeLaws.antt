-- The laws of each node, as its crate gives them.
use Rattle.std.proofs.Common.{ℕ, ◌≤◌}
use Rattle.rr_node.proofs.Falling.{crashes_in_step, fails_in_step}
use Rattle.rr_node.proofs.Starting.{starts_in_step}
use Rattle.rr_node.proofs.Stepping.{steps_in_step}
use Rattle.rr_sim.proofs.ClusterLaws.{NodeLaws}

pub node_laws : (n : ℕ) → n ≤ 7 → NodeLaws n
node_laws n few = record { starts = starts_in_step n; steps = λ p. steps_in_step n p few; fails = fails_in_step n; crashes = crashes_in_step n }
