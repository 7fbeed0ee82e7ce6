use Rattle.std.proofs.Common.{◌≡◌, ◌++◌, ◌∷◌, decimal, drop}
use Rattle.std.specs.List.{flat_map}
use Rattle.rr_draw.proofs.words.push_numbers.Given as goal

-- what is appended and what is left make the whole
abbrev pub invariant-loop-number : goal.invariant-loop-number
invariant-loop-number l = l.out.items ++ flat_map (λ i. 32 ∷ decimal i) (drop l.number-index l.numbers) ≡ l.fn.out.items ++ flat_map (λ i. 32 ∷ decimal i) l.numbers
