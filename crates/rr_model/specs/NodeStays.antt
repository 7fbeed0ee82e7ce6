-- When a node stays who it is, with the same facts marked and the same group running.
use Rattle.std.specs.Prelude.{◌≡◌}
use Rattle.rr_model.specs.NodeState.{NodeState}

-- a node stays who it is, with the same facts marked and the same group running
pub record StaysMarked (s t : NodeState) : Type 0 where
  pub nodes : t.nodes ≡ s.nodes
  pub node : t.node ≡ s.node
  pub marked : t.marked ≡ s.marked
  pub marked_end : t.marked_end ≡ s.marked_end
  pub running : t.running ≡ s.running
