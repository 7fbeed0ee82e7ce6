-- A schedule has no event whose node isn't there.
use Rattle.std.proofs.Common.{◌≡◌, ℕ, ◌+◌, List, [], ◌∷◌, None, true, nat_lt, refl, lt-ltb}
use Rattle.std.specs.List.{AllByRecursion}
use Rattle.rr_text.specs.declared.event.Event.{Event}
use Rattle.rr_text.specs.Scheduled.{IsEvent}
use Rattle.rr_sim.specs.Clusters.{first_fault}

pub no_fault : (n at : ℕ) (events : List Event) → AllByRecursion (IsEvent n) events → first_fault n at events ≡ None
no_fault n at [] all = refl
no_fault n at (e ∷ es) (here, all) = let there : nat_lt (e.node) n ≡ true = lt-ltb _ _ here.node in rw there (no_fault n (at + 1) es all)
