use Rattle.std.proofs.Common.{◌≡◌, ◌++◌}
use Rattle.rr_types.specs.Registry.{registry_of}
use Rattle.rr_folders.proofs.exporting.export.Given as goal

-- the names so far, and what is left
abbrev pub invariant-loop-entry : goal.invariant-loop-entry
invariant-loop-entry l = l.names.items ++ l.entry-iterator ≡ registry_of l.decided
