-- The bindings so far, and those that the bound names that are left give.
use Rattle.std.proofs.Common.{◌≡◌, ◌++◌}
use Rattle.rr_window.specs.Sights.{bindings_with}
use Rattle.rr_window.proofs.listing.bindings_with.Given as goal

abbrev pub invariant-loop-bound : goal.invariant-loop-bound
invariant-loop-bound l = l.bindings.items ++ bindings_with l.prefix l.bound-iterator ≡ bindings_with l.prefix l.fn.left
