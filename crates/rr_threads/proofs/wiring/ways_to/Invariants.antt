-- The ways so far lead to the first inboxes, which are the same still.
use Rattle.std.proofs.Common.{◌≡◌, ◌≤◌, length, take}
use Rattle.rr_threads.specs.Ways.{named, led_to}
use Rattle.rr_threads.proofs.wiring.ways_to.Given as goal

abbrev pub invariant-loop-place : goal.invariant-loop-place
invariant-loop-place l =
    (l.place ≤ length l.fn.inboxes) × (led_to l.ways.items ≡ take l.place (named l.fn.inboxes)) × (named l.inboxes ≡ named l.fn.inboxes)
