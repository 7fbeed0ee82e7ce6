-- What is printed and what is left make the whole.
use Rattle.std.proofs.Common.{◌≡◌, ◌++◌, drop}
use Rattle.std.specs.List.{flat_map}
use Rattle.rr_shell.specs.Objects.{binding_object}
use Rattle.rr_shell.proofs.object_text.push_bound_objects.Given as goal

abbrev pub invariant-loop-binding : goal.invariant-loop-binding
invariant-loop-binding l = l.out.items ++ flat_map binding_object (drop l.binding-index l.names) ≡ l.fn.out.items ++ flat_map binding_object l.names
