use Rattle.std.proofs.Common.{◌≡◌, ◌<◌, ℕ, drop, get_or, length, max}
use Rattle.rr_account.specs.Counts.{highest_round}
use Rattle.rr_account.proofs.rounds.highest_rounds.Given as goal

-- the highest rounds so far and those of the lines that are left are those of all
abbrev pub invariant-loop-line : goal.invariant-loop-line
invariant-loop-line l =
    record {
      long : length l.highest.items ≡ l.instances;
      each : (i : ℕ) → i < l.instances → max (get_or l.highest.items i 0) (highest_round i (drop l.line-index l.lines)) ≡ highest_round i l.lines;
    }
