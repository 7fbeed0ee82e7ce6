-- The facts of a node that aren't marked yet.
use Rattle.std.specs.Prelude.{List, Option}
use Rattle.rr_types.specs.declared.fact.Fact.{Fact}

-- the facts that aren't marked yet: those of the running group, and those staged behind it
pub record Staging : Type 0 where
  pub running : Option (List Fact)
  pub staged : List Fact
