-- What a flusher takes.
use Rattle.std.proofs.Common.{◌≡◌, Option, Some, None, refl}
use Rattle.std.specs.Prelude.{MatchOption}
use Rattle.rr_types.specs.Groups.{Grouped}
use Rattle.rr_window.specs.InOrder.{End, Takes, HasHeld}
use Rattle.rr_turn.specs.Asked.{receives}
use Rattle.rr_threads.specs.Belts.{belt_gives}

-- the oldest group is taken, or none waits
pub received : {Q B : Type 0} (group : Option Grouped) (a b : End Q Grouped) (backs : B) → b.queue ≡ a.queue
    → MatchOption group ((b ≡ a) × HasHeld 0 a.view) (λ g. Takes a.view g b.view) → belt_gives a backs (receives group) b backs
received None a b backs same taken = (taken.0, taken.1, refl)
received (Some group) a b backs same taken = (same, taken, refl)
