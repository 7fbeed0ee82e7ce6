-- Whether the lists of decided commands of two nodes agree.
use Rattle.std.specs.Prelude.{◌≡◌, ◌≤◌, Bool, true, false, if◌then◌else◌, List, [], ◌∷◌, length, All}
use Rattle.rr_types.specs.Commands.{is_same_command}
use Rattle.rr_types.specs.declared.command.Command.{Command}

-- whether two lists have no place with two commands: one is a beginning of the other
abbrev pub do_agree : List Command → List Command → Bool
do_agree [] ds = true
do_agree (c ∷ cs) [] = true
do_agree (c ∷ cs) (d ∷ ds) = if is_same_command c d then do_agree cs ds else false

-- some list is as long as that of any of these, and each list agrees with it
abbrev pub AgreeWithOne : {P : Type 0} → (P → List Command) → List P → Type 0
AgreeWithOne list parts = (whole : List Command) × All (λ p. length (list p) ≤ length whole) parts × All (λ p. do_agree (list p) whole ≡ true) parts
