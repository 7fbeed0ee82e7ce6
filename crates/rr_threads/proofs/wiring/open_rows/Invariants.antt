-- The ways of the nodes so far lead to these inboxes, which are the same still.
use Rattle.std.proofs.Common.{◌≡◌, ◌≤◌, length}
use Rattle.std.specs.Prelude.{All}
use Rattle.rr_threads.specs.Ways.{named, led_to}
use Rattle.rr_threads.proofs.wiring.open_rows.Given as goal

abbrev pub invariant-loop-made : goal.invariant-loop-made
invariant-loop-made l =
    (l.made ≤ l.fn.nodes) × (length l.rows.items ≡ l.made) × All (λ ways. led_to ways.items ≡ named l.fn.inboxes) l.rows.items
    × (named l.inboxes ≡ named l.fn.inboxes)
