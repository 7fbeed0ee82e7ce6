-- The changes of names that commands make, one after another.
use Rattle.std.specs.Prelude.{ℕ, Bool, true, false, ◌&&◌, ◌==◌, if◌then◌else◌, List, [], ◌∷◌, ◌++◌, Option, None, Some}
use Rattle.std.specs.Str.{bytes_eq}
use Rattle.rr_types.specs.declared.command.Command.{Command}
use Rattle.rr_types.specs.Commands.{op_name}
use Rattle.rr_types.specs.Registry.{Holding, holding_of, registry_of}
use Rattle.rr_window.specs.declared.change.Change.{Change}
use Rattle.rr_window.specs.declared.change.Change.TheVariants.{Bound, Freed}
use Rattle.rr_window.specs.Sights.{begins_with}

-- whether a name has the same owner and value, or nobody has it both times
abbrev pub is_same_holding : Option Holding → Option Holding → Bool
is_same_holding None None = true
is_same_holding (Some h) (Some k) = (h.owner == k.owner) && bytes_eq h.value k.value
is_same_holding before after = false

-- the change of a name to this: it is bound so, or freed
abbrev pub change_to : List ℕ → Option Holding → Change
change_to name None = Freed name
change_to name (Some h) = Bound (record { name = name; owner = h.owner; value = h.value })

-- the change of a name from who had it to who has it, if there is one
abbrev pub change_between : List ℕ → Option Holding → Option Holding → Option Change
change_between name before after = if is_same_holding before after then None else Some (change_to name after)

-- the change that a command makes behind a list
abbrev pub change_of : List Command → Command → Option Change
change_of list c =
    change_between (op_name c.op) (holding_of (registry_of list) (op_name c.op)) (holding_of (registry_of (list ++ c ∷ [])) (op_name c.op))

-- the name that changed
abbrev pub changed_name : Change → List ℕ
changed_name (Bound binding) = binding.name
changed_name (Freed name) = name

-- a change, where there is one and its name begins with these bytes
abbrev pub told : List ℕ → Option Change → List Change
told prefix None = []
told prefix (Some change) = if begins_with prefix (changed_name change) then change ∷ [] else []

-- the changes that these commands make behind a list, one after another, of the names that begin with these bytes
abbrev pub changes_with : List ℕ → List Command → List Command → List Change
changes_with prefix list [] = []
changes_with prefix list (c ∷ cs) = told prefix (change_of list c) ++ changes_with prefix (list ++ c ∷ []) cs
