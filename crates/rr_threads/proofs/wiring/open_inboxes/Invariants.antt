use Rattle.std.proofs.Common.{◌≡◌, ◌≤◌, length}
use Rattle.rr_threads.proofs.wiring.open_inboxes.Given as goal

abbrev pub invariant-loop-made : goal.invariant-loop-made
invariant-loop-made l = (l.made ≤ l.fn.nodes) × (length l.inboxes.items ≡ l.made)
