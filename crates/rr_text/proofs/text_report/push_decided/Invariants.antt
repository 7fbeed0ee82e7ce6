use Rattle.std.proofs.Common.{◌≡◌, ◌++◌, drop}
use Rattle.rr_text.specs.ReportTexts.{decided_lines}
use Rattle.rr_text.proofs.text_report.push_decided.Given as goal

-- what is printed and what is left make the whole
abbrev pub invariant-loop-i : goal.invariant-loop-i
invariant-loop-i l = l.out.items ++ decided_lines l.i (drop l.i l.commands) ≡ l.fn.out.items ++ decided_lines 0 l.commands
