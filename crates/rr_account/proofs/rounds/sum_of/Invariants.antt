use Rattle.std.proofs.Common.{◌≡◌, take}
use Rattle.std.specs.List.{sum_by}
use Rattle.rr_account.specs.Counts.{stopped}
use Rattle.rr_account.proofs.rounds.sum_of.Given as goal

-- the sum of the rounds so far
abbrev pub invariant-loop-round : goal.invariant-loop-round
invariant-loop-round l = l.sum ≡ stopped (sum_by (λ n. n) (take l.round-index l.rounds))
