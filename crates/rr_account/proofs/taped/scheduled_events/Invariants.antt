use Rattle.std.proofs.Common.{◌≡◌, ◌++◌, drop, map}
use Rattle.rr_audit.specs.Rows.{as_scheduled}
use Rattle.rr_account.proofs.taped.scheduled_events.Given as goal

-- what is made and what is left to make are the whole
abbrev pub invariant-loop-event : goal.invariant-loop-event
invariant-loop-event l = l.scheduled.items ++ map as_scheduled (drop l.event-index l.events) ≡ map as_scheduled l.events
