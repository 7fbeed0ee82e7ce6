use Rattle.std.proofs.Common.{◌≡◌, ◌++◌, drop}
use Rattle.std.specs.List.{flat_map}
use Rattle.rr_text.specs.ScriptTexts.{script_line}
use Rattle.rr_text.proofs.script_text.push_script_lines.Given as goal

-- what is printed and what is left make the whole
abbrev pub invariant-loop-line : goal.invariant-loop-line
invariant-loop-line l = l.out.items ++ flat_map script_line (drop l.line-index l.lines) ≡ l.fn.out.items ++ flat_map script_line l.lines
