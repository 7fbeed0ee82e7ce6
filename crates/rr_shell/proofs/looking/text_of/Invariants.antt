-- What is said and what is left make the whole.
use Rattle.std.proofs.Common.{◌≡◌, ◌++◌, drop}
use Rattle.std.specs.List.{flat_map}
use Rattle.rr_shell.specs.Watches.{change_said}
use Rattle.rr_shell.proofs.looking.text_of.Given as goal

abbrev pub invariant-loop-change : goal.invariant-loop-change
invariant-loop-change l = l.text.items ++ flat_map (change_said l.json) (drop l.change-index l.changes) ≡ flat_map (change_said l.json) l.changes
