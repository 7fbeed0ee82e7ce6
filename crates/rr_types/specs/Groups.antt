-- A group of facts, with the number of the first.
use Rattle.std.specs.Prelude.{ℕ, List}
use Rattle.rr_types.specs.declared.fact.Fact.{Fact}

-- a group: the number of its first fact, and the facts
pub record Grouped : Type 0 where
  pub serial : ℕ
  pub facts : List Fact
