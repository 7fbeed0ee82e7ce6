-- What is printed and what is left make the whole.
use Rattle.std.proofs.Common.{◌≡◌, ◌++◌, drop}
use Rattle.std.specs.List.{flat_map}
use Rattle.rr_json.specs.Objects.{line_object}
use Rattle.rr_json.proofs.report_objects.push_line_objects.Given as goal

abbrev pub invariant-loop-line : goal.invariant-loop-line
invariant-loop-line l = l.out.items ++ flat_map line_object (drop l.line-index l.lines) ≡ l.fn.out.items ++ flat_map line_object l.lines
