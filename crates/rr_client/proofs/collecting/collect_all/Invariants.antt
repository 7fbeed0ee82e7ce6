-- There is a guest for each slot so far.
use Rattle.std.proofs.Common.{◌≡◌, length}
use Rattle.rr_client.proofs.collecting.collect_all.Given as goal

abbrev pub invariant-slots : goal.invariant-slots
invariant-slots g l = length l.guests.items ≡ length l.yielded
