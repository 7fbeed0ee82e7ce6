-- A node in brief.
use Rattle.std.specs.Prelude.{◌≡◌, length}
use Rattle.rr_types.specs.declared.summary.NodeSummary.{NodeSummary}
use Rattle.rr_model.specs.NodeState.{NodeState, decided_prefix}

-- a node in brief: how many facts it has marked, how many commands it has decided, and whom it suspects
abbrev pub summary_of : NodeState → NodeSummary
summary_of s = record { facts = s.marked_end; decided = length (decided_prefix s); suspects = s.suspects }

-- a node in brief, by some state of a node
abbrev pub IsSummary : NodeSummary → Type 0
IsSummary b = (s : NodeState) × (b ≡ summary_of s)
