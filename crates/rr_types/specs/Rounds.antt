-- Majorities, the coordinator of a round, estimates, and where an open instance stands.
use Rattle.std.specs.Prelude.{ℕ, ◌+◌, ◌/◌, ◌%◌, Option}
use Rattle.rr_types.specs.declared.command.Command.{Command}

-- more than half of n nodes
abbrev pub majority_of : ℕ → ℕ
majority_of n = n / 2 + 1

-- the coordinator of round r among n nodes
abbrev pub coordinator_of : ℕ → ℕ → ℕ
coordinator_of r n = r % n

-- an estimate: the round that its node is in, the round in which the node adopted it, and the command
pub record Estimated : Type 0 where
  pub round : ℕ
  pub stamp : ℕ
  pub command : Command

-- where an open instance stands: its round, the estimate with its stamp, and the node's proposal of the round
pub record OpenAt : Type 0 where
  pub round : ℕ
  pub stamp : ℕ
  pub estimate : Command
  pub proposal : Option Command
