use Rattle.std.proofs.Common.{◌≡◌, ◌≤◌, ◌++◌, drop}
use Rattle.rr_account.specs.Counts.{reasons_behind}
use Rattle.rr_account.proofs.reasons.reasons_of.Given as goal

-- what is said so far and what is left to say are the whole
abbrev pub invariant-loop-outcome : goal.invariant-loop-outcome
invariant-loop-outcome l =
    (l.reasons.items ++ reasons_behind l.lines l.told (drop l.outcome-index l.outcomes) ≡ reasons_behind l.lines 0 l.outcomes) × (l.told ≤ l.outcome-index)
