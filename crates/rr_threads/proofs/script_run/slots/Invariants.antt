use Rattle.std.proofs.Common.{◌≡◌, map, take}
use Rattle.rr_threads.specs.Unasked.{first_answer}
use Rattle.rr_threads.proofs.script_run.slots.Given as goal

abbrev pub invariant-loop-line : goal.invariant-loop-line
invariant-loop-line l = l.slots.items ≡ map (first_answer l.without) (take l.line-index l.lines)
