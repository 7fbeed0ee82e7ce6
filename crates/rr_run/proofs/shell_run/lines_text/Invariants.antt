-- What is written and what is left make the whole.
use Rattle.std.proofs.Common.{◌≡◌, ◌++◌, drop, map}
use Rattle.rr_run.specs.Shells.{lines_text}
use Rattle.rr_run.proofs.shell_run.lines_text.Given as goal

abbrev pub invariant-loop-line : goal.invariant-loop-line
invariant-loop-line l = l.text.items ++ lines_text (map (λ s. s.now) (drop l.line-index l.lines)) ≡ lines_text (map (λ s. s.now) l.lines)
