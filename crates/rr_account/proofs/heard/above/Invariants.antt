use Rattle.std.proofs.Common.{ℕ, ◌<◌, get_or}
use Rattle.rr_account.proofs.heard.above.Given as goal

-- it is above the numbers so far
abbrev pub invariant-loop-number : goal.invariant-loop-number
invariant-loop-number l = (k : ℕ) → k < l.number-index → get_or l.numbers k 0 < l.bound
