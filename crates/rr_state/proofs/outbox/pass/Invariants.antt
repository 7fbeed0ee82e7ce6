use Rattle.std.proofs.Common.{◌≡◌, ◌-◌, ◌≤◌, length}
use Rattle.std.specs.List.{remove_range}
use Rattle.rr_state.specs.Passed.{IsPassed}
use Rattle.rr_state.proofs.outbox.pass.Given as goal

abbrev pub invariant-loop-at : goal.invariant-loop-at
invariant-loop-at l =
    (remove_range l.owed.items l.at.count l.at.next ≡ remove_range l.initial.owed.items l.fn.from.count l.fn.from.next)
    × IsPassed l.at.count l.at.next l.at.least l.owed.items
    × (l.end ≤ l.at.least)

abbrev pub decreases-loop-at : goal.decreases-loop-at
decreases-loop-at l = length l.owed.items - l.at.next
