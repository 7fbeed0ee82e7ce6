-- There are so many slots so far.
use Rattle.std.proofs.Common.{◌≡◌, length}
use Rattle.rr_client.proofs.collecting.open_slots.Given as goal

abbrev pub invariant-slots : goal.invariant-slots
invariant-slots g l = length l.slots.items ≡ l.counter
