use Rattle.std.proofs.Common.{◌≡◌, ℕ, ◌<◌, get_or, length, take}
use Rattle.rr_account.specs.Counts.{times}
use Rattle.rr_account.proofs.heard.times_heard.Given as goal

-- each message is counted as often as it is among the numbers so far, and each number has its count
abbrev pub invariant-loop-number : goal.invariant-loop-number
invariant-loop-number l =
    record {
      within : (k : ℕ) → k < length l.heard → get_or l.heard k 0 < length l.counts.items;
      so_far : (k : ℕ) → get_or l.counts.items k 0 ≡ times (take l.number-index l.heard) k;
    }
