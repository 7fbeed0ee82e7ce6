use Rattle.std.proofs.Common.{◌≡◌, ◌++◌, drop, length}
use Rattle.std.specs.Map.{values_of}
use Rattle.rr_registry.specs.Places.{filled}
use Rattle.rr_registry.proofs.NumberedLemmas.{present}
use Rattle.rr_registry.proofs.numbered.Numbered.values.Given as goal

-- what is pushed, and what is left of the vector, then of the tree
abbrev pub invariant-loop-place : goal.invariant-loop-place
invariant-loop-place g l = l.values.items ++ present (drop l.place-index l.place-items) ≡ present l.place-items

abbrev pub invariant-loop-place-2 : goal.invariant-loop-place-2
invariant-loop-place-2 g l = l.values.items ++ values_of (filled l.rest) ≡ values_of (filled l.self)

abbrev pub decreases-loop-place-2 : goal.decreases-loop-place-2
decreases-loop-place-2 g l = length l.rest
