use Rattle.std.proofs.Common.{◌≡◌, ◌++◌, drop}
use Rattle.std.specs.List.{flat_map}
use Rattle.rr_sim.specs.SweepTexts.{sweep_line}
use Rattle.rr_sim.proofs.text.push_sweep_lines.Given as goal

-- what is printed and what is left make the whole
abbrev pub invariant-loop-line : goal.invariant-loop-line
invariant-loop-line l = l.text.items ++ flat_map sweep_line (drop l.line-index l.lines) ≡ l.fn.text.items ++ flat_map sweep_line l.lines
