-- A node opens no instance but the lowest undecided ones: what that means for its facts, one behind another.
use Rattle.std.specs.Prelude.{ℕ, ◌<◌, List, [], ◌∷◌, ◌++◌}
use Rattle.rr_types.specs.declared.fact.Fact.{Fact}
use Rattle.rr_types.specs.declared.fact.Fact.TheVariants.{Enter, Propose, Adopt, Decide}
use Rattle.rr_types.specs.Facts.{standing_of}
use Rattle.rr_types.specs.Limits.{open_count}
use Rattle.rr_types.specs.Standings.{is_undecided}
use Rattle.rr_model.specs.Lawful.{count_below}
use Rattle.rr_model.specs.NodeLaws.{StateEvent, facts_of_event}
use Rattle.rr_model.specs.NodeState.{NodeState}

-- how many of the instances below i these facts leave undecided
abbrev pub undecided_below : ℕ → List Fact → ℕ
undecided_below i facts = count_below (λ j. is_undecided (standing_of j facts)) i

-- behind these facts, a fact is of one of the eight lowest undecided instances; a decision may be of any
abbrev pub IsOfOpen : List Fact → Fact → Type 0
IsOfOpen facts (Enter i e) = undecided_below i facts < open_count
IsOfOpen facts (Propose i r v) = undecided_below i facts < open_count
IsOfOpen facts (Adopt i r v) = undecided_below i facts < open_count
IsOfOpen facts (Decide i v) = Unit {0}

-- that holds of each of the later facts, behind those before it
abbrev pub AreOfOpen : List Fact → List Fact → Type 0
AreOfOpen before [] = Unit {0}
AreOfOpen before (f ∷ fs) = IsOfOpen before f × AreOfOpen (before ++ f ∷ []) fs

-- an event stages no facts but decisions and those of open instances, behind these facts
abbrev pub OpensTheLowest : List Fact → NodeState → StateEvent → Type 0
OpensTheLowest facts s e = AreOfOpen facts (facts_of_event s e)
