use Rattle.std.proofs.Common.{◌≡◌, ◌++◌, drop}
use Rattle.std.specs.List.{flat_map}
use Rattle.rr_account.specs.TapeAccounts.{line_on}
use Rattle.rr_account.proofs.taped.lines_on.Given as goal

-- what is made and what is left to make are the whole
abbrev pub invariant-loop-event : goal.invariant-loop-event
invariant-loop-event l = l.lines.items ++ flat_map line_on (drop l.event-index l.events) ≡ flat_map line_on l.events
