-- The command by which a client learns what was acknowledged before.
use Rattle.std.specs.Prelude.{ℕ, List}
use Rattle.rr_types.specs.declared.command.Command.{Command}
use Rattle.rr_types.specs.declared.command.RequestNo.{RequestNo}
use Rattle.rr_types.specs.declared.command.Op.TheVariants.{Transfer}

-- a client's transfer of a name to itself: it leaves the registry as it is, whoever has the name (`changes_nothing`)
abbrev pub to_itself : RequestNo → List ℕ → Command
to_itself q name = record { request = q; op = Transfer name q.client }
