-- Of which name a command is.
use Rattle.std.specs.Prelude.{ℕ, List}
use Rattle.rr_types.specs.declared.command.Op.{Op}
use Rattle.rr_types.specs.declared.command.Op.TheVariants.{Claim, Update, Release, Transfer}

-- the name that an operation is of
abbrev pub name_in : Op → List ℕ
name_in (Claim name value) = name
name_in (Update name value) = name
name_in (Release name) = name
name_in (Transfer name owner) = name
