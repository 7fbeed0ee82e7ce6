-- What a fact is about, where facts leave an instance, and what the instance has decided.
use Rattle.std.specs.Prelude.{ℕ, ◌==◌, if◌then◌else◌, List, Option, None, Some}
use Rattle.std.specs.List.{fold}
use Rattle.rr_types.specs.declared.command.Command.{Command}
use Rattle.rr_types.specs.declared.fact.Fact.{Fact}
use Rattle.rr_types.specs.declared.fact.Fact.TheVariants.{Enter, Propose, Adopt, Decide}
use Rattle.rr_types.specs.declared.promise.Standing.{Standing}
use Rattle.rr_types.specs.declared.promise.Standing.TheVariants.{Decided, Open}
use Rattle.rr_types.specs.Rounds.{OpenAt}

-- the instance that a fact is about
abbrev pub instance_of : Fact → ℕ
instance_of (Enter i e) = i
instance_of (Propose i r v) = i
instance_of (Adopt i r v) = i
instance_of (Decide i v) = i

-- the standing with this change to an open instance; one that is in no round, or has decided, is left alone
abbrev pub change_open : (OpenAt → OpenAt) → Option Standing → Option Standing
change_open change None = None
change_open change (Some (Decided v)) = Some (Decided v)
change_open change (Some (Open o)) = Some (Open (change o))

-- where an instance stands after a fact about it. Enter leaves no proposal, Decide leaves the command alone
abbrev pub after_fact : Option Standing → Fact → Option Standing
after_fact s (Enter i e) = Some (Open (record { round = e.round; stamp = e.stamp; estimate = e.command; proposal = None }))
after_fact s (Propose i r v) = change_open (λ o. record o { proposal = Some v }) s
after_fact s (Adopt i r v) = change_open (λ o. record o { stamp = r; estimate = v }) s
after_fact s (Decide i v) = Some (Decided v)

-- where instance i stands by a list of facts, oldest first; None where no fact speaks of it
abbrev pub standing_of : ℕ → List Fact → Option Standing
standing_of i facts = fold (λ s f. if instance_of f == i then after_fact s f else s) None facts

-- the command that the instance has decided
abbrev pub decision_of : Option Standing → Option Command
decision_of None = None
decision_of (Some (Decided v)) = Some v
decision_of (Some (Open o)) = None
