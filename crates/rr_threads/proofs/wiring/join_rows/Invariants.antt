-- The nodes so far have the first inboxes and ways to all, and as many ways as inboxes are left.
use Rattle.std.proofs.Common.{◌≡◌, ◌++◌, length}
use Rattle.std.specs.Prelude.{map, All}
use Rattle.std.specs.Vec.Iter.{into_iter_items}
use Rattle.rr_threads.specs.Ways.{named, led_to}
use Rattle.rr_threads.proofs.wiring.join_rows.Given as goal

abbrev pub invariant-loop-inbox : goal.invariant-loop-inbox
invariant-loop-inbox l =
    (map (λ m. m.inbox) l.mails.items ++ into_iter_items l.inbox-iterator ≡ l.fn.inboxes.items)
    × (length l.rows.items ≡ length (into_iter_items l.inbox-iterator))
    × All (λ ways. led_to ways.items ≡ named l.fn.inboxes.items) l.rows.items
    × All (λ m. led_to m.ways.items ≡ named l.fn.inboxes.items) l.mails.items
