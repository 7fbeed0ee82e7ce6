-- Whether two estimates, facts or lists of facts are one.
use Rattle.std.specs.Prelude.{◌≡◌, Bool, true, false, ◌&&◌, ◌==◌, List, [], ◌∷◌, Option, None, Some}
use Rattle.rr_types.specs.declared.fact.Fact.{Fact}
use Rattle.rr_types.specs.declared.fact.Fact.TheVariants.{Enter, Propose, Adopt, Decide}
use Rattle.rr_types.specs.Commands.{is_same_command}
use Rattle.rr_types.specs.Rounds.{Estimated}

-- whether two estimates are one
abbrev pub is_same_estimate : Estimated → Estimated → Bool
is_same_estimate e f = e.round == f.round && e.stamp == f.stamp && is_same_command e.command f.command

-- whether two facts are one
abbrev pub is_same_fact : Fact → Fact → Bool
is_same_fact (Enter i e) (Enter j f) = i == j && is_same_estimate e f
is_same_fact (Enter i e) (Propose j r v) = false
is_same_fact (Enter i e) (Adopt j r v) = false
is_same_fact (Enter i e) (Decide j v) = false
is_same_fact (Propose i r v) (Enter j f) = false
is_same_fact (Propose i r v) (Propose j q w) = i == j && r == q && is_same_command v w
is_same_fact (Propose i r v) (Adopt j q w) = false
is_same_fact (Propose i r v) (Decide j w) = false
is_same_fact (Adopt i r v) (Enter j f) = false
is_same_fact (Adopt i r v) (Propose j q w) = false
is_same_fact (Adopt i r v) (Adopt j q w) = i == j && r == q && is_same_command v w
is_same_fact (Adopt i r v) (Decide j w) = false
is_same_fact (Decide i v) (Enter j f) = false
is_same_fact (Decide i v) (Propose j q w) = false
is_same_fact (Decide i v) (Adopt j q w) = false
is_same_fact (Decide i v) (Decide j w) = i == j && is_same_command v w

-- whether two lists of facts are one
abbrev pub are_same_facts : List Fact → List Fact → Bool
are_same_facts [] [] = true
are_same_facts [] (g ∷ gs) = false
are_same_facts (f ∷ fs) [] = false
are_same_facts (f ∷ fs) (g ∷ gs) = is_same_fact f g && are_same_facts fs gs
