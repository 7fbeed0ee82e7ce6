-- Which of the messages that a core owes may leave.
use Rattle.std.specs.Prelude.{◌≡◌, ◌⊎◌, ℕ, ◌<◌, IsTrue, All, Some}
use Rattle.rr_model.specs.NodeState.{NodeState, Owed}
use Rattle.rr_model.specs.NodeStep.{may_leave}
use Rattle.rr_state.specs.Owing.{is_free}

-- a message of this node, which may leave only where it is free or backed by a fact below this number
abbrev pub IsCovered : ℕ → ℕ → Owed → Type 0
IsCovered node end o = (o.message.from ≡ node) × (IsTrue (may_leave end o) → IsTrue (is_free o.message.body) ⊎ ((k : ℕ) × (o.backing ≡ Some k) × (k < end)))

-- each message that may leave is the node's own, and is free or backed by a marked fact
abbrev pub LeavesCovered : NodeState → Type 0
LeavesCovered s = All (IsCovered s.node s.marked_end) s.owed
