-- What is printed and what is left make the whole.
use Rattle.std.proofs.Common.{◌≡◌, ◌++◌, ◌∷◌, drop, map, ℕ, List}
use Rattle.std.specs.List.{flat_map}
use Rattle.rr_json.specs.Objects.{binding_object}
use Rattle.rr_json.proofs.report_objects.push_more_bindings.Given as goal

abbrev pub invariant-loop-binding : goal.invariant-loop-binding
invariant-loop-binding l = l.out.items ++ flat_map (λ (t : List ℕ). 44 ∷ t) (map binding_object (drop l.binding-index l.bindings)) ≡ l.fn.out.items ++ flat_map (λ (t : List ℕ). 44 ∷ t) (map binding_object l.bindings)
