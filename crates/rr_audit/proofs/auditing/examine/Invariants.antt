use Rattle.std.proofs.Common.{◌≡◌, take}
use Rattle.rr_audit.specs.Following.{IsUnderWay}
use Rattle.rr_audit.proofs.auditing.examine.Given as goal

-- the audit has followed the events so far
abbrev pub invariant-loop-event : goal.invariant-loop-event
invariant-loop-event l = (l.count ≡ l.event-index) × IsUnderWay l.tape.nodes (take l.event-index l.events) l.progress
