-- What is printed and what is left make the whole.
use Rattle.std.proofs.Common.{◌≡◌, ◌++◌, drop}
use Rattle.std.specs.List.{flat_map}
use Rattle.rr_shell.specs.Texts.{bound_line}
use Rattle.rr_shell.proofs.line_text.push_bound_lines.Given as goal

abbrev pub invariant-loop-binding : goal.invariant-loop-binding
invariant-loop-binding l = l.out.items ++ flat_map bound_line (drop l.binding-index l.names) ≡ l.fn.out.items ++ flat_map bound_line l.names
