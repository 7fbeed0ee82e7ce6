use Rattle.std.proofs.Common.{◌≡◌, ◌+◌, ◌≤◌, drop}
use Rattle.rr_account.specs.Counts.{count_events}
use Rattle.rr_account.proofs.statistics.count_events.Given as goal

-- what is counted and what is left make the whole
abbrev pub invariant-loop-event : goal.invariant-loop-event
invariant-loop-event l = (l.count + count_events l.kind (drop l.event-index l.events) ≡ count_events l.kind l.events) × (l.count ≤ l.event-index)
