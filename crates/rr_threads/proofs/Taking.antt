-- What is taken leaves a node's mail its ends.
use Rattle.std.proofs.Common.{◌∙◌, Option, Some, None, ap}
use Rattle.rr_turn.specs.Recorded.{Sent}
use Rattle.rr_threads.specs.declared.wires.Mail.{Mail}
use Rattle.rr_threads.specs.Ways.{IsTaken, HasSameEnds}

same_ends : (a : Mail) (sent : Option Sent) (b : Mail) → IsTaken a sent b → HasSameEnds a b
same_ends a None b taken = (ap (λ (m : Mail). m.inbox.queue) taken.0, ap (λ (m : Mail). m.ways) taken.0)
same_ends a (Some sent) b taken = (taken.0, taken.2)

-- one more is taken
pub ends_still : (a b : Mail) (sent : Option Sent) (c : Mail) → HasSameEnds a b → IsTaken b sent c → HasSameEnds a c
ends_still a b sent c still taken = let now = same_ends b sent c taken in (now.0 ∙ still.0, now.1 ∙ still.1)
