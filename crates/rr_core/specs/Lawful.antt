-- The facts of a node that aren't marked yet, and when all its facts are lawful: they fit, and instances stand where they say.
use Rattle.std.specs.Prelude.{◌≡◌, ℕ, ◌≤◌, ◌++◌, [], List, length, IfSome, true}
use Rattle.std.specs.Option.{option_map_or}
use Rattle.rr_types.specs.declared.fact.Fact.{Fact}
use Rattle.rr_types.specs.Promises.{standing_in, take_on_all, all_fit, IsAscending}
use Rattle.rr_types.specs.Limits.{max_group}
use Rattle.rr_model.specs.NodeState.{NodeState, standing_at}

-- the facts that aren't marked yet, oldest first
abbrev pub unmarked_facts : NodeState → List Fact
unmarked_facts s = option_map_or (λ facts. facts) s.running [] ++ s.staged

-- a state in which facts are lawful: the promise ascends, the facts that aren't marked yet fit it one after
-- another, and each instance stands where all facts leave it. A running group has 1 to 64 facts
pub record IsLawful (s : NodeState) : Type 0 where
  pub ascends : IsAscending s.marked
  pub fits : all_fit s.nodes s.node s.marked (unmarked_facts s) ≡ true
  pub stands : (i : ℕ) → standing_at s i ≡ standing_in (take_on_all s.marked (unmarked_facts s)) i
  pub few : IfSome s.running (λ facts. (1 ≤ length facts) × (length facts ≤ max_group))
