-- How a run ends.
use Rattle.std.specs.Prelude.{ℕ, nat_le, if◌then◌else◌, Option, None, Some}
use Rattle.rr_turn.specs.declared.ending.Failure.{Failure}

-- how many clients of a run aren't done, and the failure that ended it, if one did
pub record Ending : Type 0 where
  pub clients : ℕ
  pub failure : Option Failure

-- the failure that is kept after one more: the lowest node's, and of one node's the first
abbrev pub with_failure : Option Failure → Failure → Option Failure
with_failure None f = Some f
with_failure (Some e) f = if nat_le e.node f.node then Some e else Some f
