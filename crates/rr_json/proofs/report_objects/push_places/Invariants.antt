-- What is printed and what is left make the whole.
use Rattle.std.proofs.Common.{◌≡◌, ◌++◌, drop}
use Rattle.rr_json.specs.Objects.{place_objects}
use Rattle.rr_json.proofs.report_objects.push_places.Given as goal

abbrev pub invariant-loop-place : goal.invariant-loop-place
invariant-loop-place l = l.out.items ++ place_objects l.place (drop l.place l.decided) ≡ l.fn.out.items ++ place_objects 0 l.decided
