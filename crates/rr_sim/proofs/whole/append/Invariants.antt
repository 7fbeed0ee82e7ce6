use Rattle.std.proofs.Common.{◌≡◌, ◌++◌}
use Rattle.rr_sim.proofs.whole.append.Given as goal

-- the lines so far are appended
abbrev pub invariant-loop-line : goal.invariant-loop-line
invariant-loop-line l = l.lines.items ≡ l.initial.lines.items ++ l.yielded
