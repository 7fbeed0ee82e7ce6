-- What a call of a flusher does to its ends of the hand-overs.
use Rattle.std.specs.Prelude.{◌≡◌, None, Some}
use Rattle.rr_types.specs.Groups.{Grouped}
use Rattle.rr_window.specs.InOrder.{End, Takes, HasHeld}
use Rattle.rr_turn.specs.Asked.{Call, receives}

-- the oldest group is taken, or none waits; and both ends stay those of their hand-overs
abbrev pub belt_gives : {Q B : Type 0} → End Q Grouped → B → Call → End Q Grouped → B → Type 0
belt_gives a backs (receives None) b then = (b ≡ a) × HasHeld 0 a.view × (then ≡ backs)
belt_gives a backs (receives (Some group)) b then = (b.queue ≡ a.queue) × Takes a.view group b.view × (then ≡ backs)
belt_gives a backs call b then = (b ≡ a) × (then ≡ backs)
