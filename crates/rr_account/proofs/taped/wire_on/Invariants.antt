use Rattle.std.proofs.Common.{◌≡◌, ◌++◌, drop}
use Rattle.std.specs.List.{flat_map}
use Rattle.rr_audit.specs.Audits.{sent_by}
use Rattle.rr_account.proofs.taped.wire_on.Given as goal

-- what is made and what is left to make are the whole
abbrev pub invariant-loop-event : goal.invariant-loop-event
invariant-loop-event l = l.wire.items ++ flat_map sent_by (drop l.event-index l.events) ≡ flat_map sent_by l.events
