-- The line that is looked for stands behind so many of those that are left.
use Rattle.std.proofs.Common.{◌≡◌, ◌-◌}
use Rattle.rr_explain.specs.Faults.{line_behind}
use Rattle.rr_explain.proofs.faults.fault_in_line.Given as goal

abbrev pub invariant-loop-line : goal.invariant-loop-line
invariant-loop-line l = line_behind (l.number - l._line) l.rest ≡ line_behind (l.number - 1) l.lines
