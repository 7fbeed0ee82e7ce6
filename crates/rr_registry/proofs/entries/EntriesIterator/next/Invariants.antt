use Rattle.std.proofs.Common.{◌≡◌, length}
use Rattle.rr_registry.specs.Places.{filled}
use Rattle.rr_registry.proofs.entries.EntriesIterator.next.Given as goal

-- the places passed so far were free
abbrev pub invariant-loop-name : goal.invariant-loop-name
invariant-loop-name l = filled l.self-inside.places ≡ l.fn.self

abbrev pub decreases-loop-name : goal.decreases-loop-name
decreases-loop-name l = length l.self-inside.places
