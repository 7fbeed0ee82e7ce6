-- The rows and the marked promise of a node, and when changes of them keep what instances have decided.
use Rattle.std.specs.Prelude.{◌≡◌, ℕ, List, [], ◌∷◌, Option, None, Some, option_map}
use Rattle.rr_types.specs.declared.command.Command.{Command}
use Rattle.rr_types.specs.declared.fact.Fact.{Fact}
use Rattle.rr_types.specs.declared.promise.Entry.{Entry}
use Rattle.rr_types.specs.Facts.{instance_of, decision_of}
use Rattle.rr_types.specs.Standings.{IsInRound}
use Rattle.rr_types.specs.Promises.{standing_in, take_on}
use Rattle.rr_model.specs.NodeState.{Row, row_of, put_row}

-- the instances that the facts name, by their rows, and the promise of the marked facts
pub record Listed : Type 0 where
  pub rows : List Row
  pub marked : List Entry

-- the rows with these put, one after another
abbrev pub put_rows : List Row → List Row → List Row
put_rows rows [] = rows
put_rows rows (c ∷ cs) = put_rows (put_row c rows) cs

-- the command that instance i has decided by the rows
abbrev pub decision_at : List Row → ℕ → Option Command
decision_at rows i = decision_of (option_map (λ r. r.standing) (row_of rows i))

-- what the first rows have decided, the second ones have decided as well
abbrev pub KeepsDecisions : List Row → List Row → Type 0
KeepsDecisions rows after = (i : ℕ) (v : Command) → decision_at rows i ≡ Some v → decision_at after i ≡ Some v

-- the same of the entries of two promises
abbrev pub KeepsPromised : List Entry → List Entry → Type 0
KeepsPromised entries after = (i : ℕ) (v : Command) → decision_of (standing_in entries i) ≡ Some v → decision_of (standing_in after i) ≡ Some v

-- each instance that the entries name has a row
abbrev pub HaveRows : List Entry → List Row → Type 0
HaveRows entries rows = (i : ℕ) → row_of rows i ≡ None → standing_in entries i ≡ None

-- each Adopt of the facts, oldest first, is of the round in which the entries have its instance by then
abbrev pub AllInRound : List Entry → List Fact → Type 0
AllInRound es [] = Unit {0}
AllInRound es (f ∷ fs) = IsInRound (standing_in es (instance_of f)) f × AllInRound (take_on es f) fs
