-- The decisions so far, and those of what is left.
use Rattle.std.proofs.Common.{◌≡◌, ◌++◌, drop}
use Rattle.rr_model.specs.LostDisks.{decisions_from}
use Rattle.rr_folders.proofs.renewal.decisions.Given as goal

abbrev pub invariant-loop-command : goal.invariant-loop-command
invariant-loop-command l = l.facts.items ++ decisions_from l.number (drop l.command-index l.commands) ≡ decisions_from l.fn.first l.commands
