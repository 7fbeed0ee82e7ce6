-- A flush: the group of facts that is written behind the last gate of an area.
use Rattle.std.specs.Prelude.{ℕ, List}
use Rattle.rr_types.specs.Groups.{Grouped}
use Rattle.rr_disk.specs.declared.area.Area.{Area}

-- a flush of a node, of so many nodes: behind the gate at this place of the area it writes the body, the group's bytes and a closed gate
pub record Flush : Type 0 where
  pub nodes : ℕ
  pub node : ℕ
  pub area : Area
  pub gate : ℕ
  pub body : List ℕ
  pub group : Grouped

-- a node's group that a crash keeps
pub record Kept : Type 0 where
  pub node : ℕ
  pub group : Grouped
