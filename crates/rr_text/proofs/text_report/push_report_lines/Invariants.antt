use Rattle.std.proofs.Common.{◌≡◌, ◌++◌, drop}
use Rattle.std.specs.List.{flat_map}
use Rattle.rr_text.specs.ReportTexts.{line, report_words}
use Rattle.rr_text.proofs.text_report.push_report_lines.Given as goal

-- what is printed and what is left make the whole
abbrev pub invariant-loop-report_line : goal.invariant-loop-report_line
invariant-loop-report_line l = l.out.items ++ flat_map (λ r. line (report_words r)) (drop l.report_line-index l.lines) ≡ l.fn.out.items ++ flat_map (λ r. line (report_words r)) l.lines
