-- What is printed and what is left make the whole.
use Rattle.std.proofs.Common.{◌≡◌, ◌++◌, ◌∷◌, drop, map, ℕ, List}
use Rattle.std.specs.List.{flat_map}
use Rattle.rr_account.specs.Objects.{refusal_count_object}
use Rattle.rr_account.proofs.table.push_more_refusals.Given as goal

abbrev pub invariant-loop-row : goal.invariant-loop-row
invariant-loop-row l = l.out.items ++ flat_map (λ (t : List ℕ). 44 ∷ t) (map refusal_count_object (drop l.row-index l.rows)) ≡ l.fn.out.items ++ flat_map (λ (t : List ℕ). 44 ∷ t) (map refusal_count_object l.rows)
