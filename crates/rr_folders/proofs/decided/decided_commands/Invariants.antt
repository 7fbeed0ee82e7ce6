use Rattle.std.proofs.Common.{◌≡◌, ◌++◌, drop}
use Rattle.rr_types.specs.Promises.{decided_from}
use Rattle.rr_folders.proofs.decided.decided_commands.Given as goal

-- the commands so far and what the others decide
abbrev pub invariant-loop-place : goal.invariant-loop-place
invariant-loop-place l = l.commands.items ++ decided_from l.place (drop l.place l.entries) ≡ decided_from 0 l.entries
