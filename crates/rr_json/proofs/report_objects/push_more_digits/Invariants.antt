-- What is printed and what is left make the whole.
use Rattle.std.proofs.Common.{◌≡◌, ◌++◌, ◌∷◌, [], drop, map, ℕ, List}
use Rattle.std.specs.List.{flat_map}
use Rattle.rr_json.proofs.report_objects.push_more_digits.Given as goal

abbrev pub invariant-loop-digit : goal.invariant-loop-digit
invariant-loop-digit l = l.out.items ++ flat_map (λ (t : List ℕ). 44 ∷ t) (map (λ (d : ℕ). d ∷ []) (drop l.digit-index l.digits)) ≡ l.fn.out.items ++ flat_map (λ (t : List ℕ). 44 ∷ t) (map (λ (d : ℕ). d ∷ []) l.digits)
