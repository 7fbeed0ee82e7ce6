-- A mark, a message with the number of the fact that backs it, and whether the mark clears the message.
use Rattle.std.specs.Prelude.{◌≡◌, ◌⊎◌, ℕ, ◌<◌, Bool, ◌&&◌, ◌==◌, nat_lt, IsTrue, List, Contains, Some}
use Rattle.rr_types.specs.declared.message.Message.{Message}
use Rattle.rr_model.specs.NodeState.{NodeState, Owed}
use Rattle.rr_state.specs.Owing.{is_free}

-- the facts of a node below this number are safe
pub record Marked : Type 0 where
  pub node : ℕ
  pub end : ℕ

-- the mark behind a node's marked facts
abbrev pub mark_of : NodeState → Marked
mark_of s = record { node = s.node; end = s.marked_end }

-- a message with the number of the fact that backs it
pub record Drafted : Type 0 where
  pub message : Message
  pub number : ℕ

-- whether a mark clears a draft: it is of the message's sender and covers the fact
abbrev pub clears : Marked → Drafted → Bool
clears m d = d.message.from == m.node && nat_lt d.number m.end

-- a message of the mark's node that is free, or that is owed with the number of a fact that the mark covers
pub record IsFreeOrBacked (m : Marked) (owed : List Owed) (said : Message) : Type 0 where
  pub own : said.from ≡ m.node
  pub backed : IsTrue (is_free said.body) ⊎ ((k : ℕ) × (k < m.end) × Contains owed (record { message = said; backing = Some k }))
