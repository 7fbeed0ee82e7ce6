-- What is printed and what is left make the whole.
use Rattle.std.proofs.Common.{◌≡◌, ◌++◌, drop}
use Rattle.std.specs.List.{flat_map}
use Rattle.rr_cli.specs.Clusters.{claim_object}
use Rattle.rr_cli.proofs.exporting.push_claims.Given as goal

abbrev pub invariant-loop-line : goal.invariant-loop-line
invariant-loop-line l = l.out.items ++ flat_map claim_object (drop l.line-index l.lines) ≡ l.fn.out.items ++ flat_map claim_object l.lines
