-- Which facts what is left of a disk holds.
use Rattle.std.specs.Prelude.{◌≡◌, ℕ, true, List, [], length}
use Rattle.rr_types.specs.declared.fact.Fact.{Fact}
use Rattle.rr_types.specs.Promises.{promise_of, all_fit}
use Rattle.rr_disk.specs.Crash.{Images}
use Rattle.rr_journal.specs.Image.{Found, Unformatted, Broken, Active, Outdated, found}
use Rattle.rr_journal.specs.Migration.{may_migrate}

-- what was found stands for these facts; an area of version 1 where it can give way to one of version 2
abbrev pub StandsFor : Found → List Fact → Type 0
StandsFor Unformatted facts = length facts ≡ 0
StandsFor (Broken area offset) facts = ⊥
StandsFor (Active area c) facts = (c.promise ≡ promise_of facts) × (c.next ≡ length facts)
StandsFor (Outdated area c) facts = (c.promise ≡ promise_of facts) × (c.next ≡ length facts) × (may_migrate c ≡ true)

-- an image holds these facts of node p of n: each fits the promise before it, and the areas stand for them
pub record Holds (n p : ℕ) (images : Images) (facts : List Fact) : Type 0 where
  pub fit : all_fit n p [] facts ≡ true
  pub stands : StandsFor (found n p images.of_first images.of_second) facts
