-- What is printed and what is left make the whole.
use Rattle.std.proofs.Common.{◌≡◌, ◌++◌, drop}
use Rattle.std.specs.List.{flat_map}
use Rattle.rr_run.specs.Telling.{reused_line}
use Rattle.rr_run.proofs.reused.push_reused.Given as goal

abbrev pub invariant-loop-one : goal.invariant-loop-one
invariant-loop-one l = l.out.items ++ flat_map reused_line (drop l.one-index l.reused) ≡ l.fn.out.items ++ flat_map reused_line l.reused
