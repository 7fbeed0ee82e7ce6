-- What a publisher has.
use Rattle.std.specs.Prelude.{List, ◌++◌}
use Rattle.rr_types.specs.declared.command.Command.{Command}
use Rattle.rr_window.specs.Windows.{Publishing}

-- its commands, published or not
abbrev pub listed : Publishing → List Command
listed p = p.published ++ p.appended
