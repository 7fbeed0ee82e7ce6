use Rattle.std.proofs.Common.{◌≡◌, ◌++◌, drop, map}
use Rattle.rr_account.specs.TapeAccounts.{came_of}
use Rattle.rr_account.proofs.taped.outcomes_on.Given as goal

-- what is made and what is left to make are the whole
abbrev pub invariant-loop-event : goal.invariant-loop-event
invariant-loop-event l = l.outcomes.items ++ map came_of (drop l.event-index l.events) ≡ map came_of l.events
