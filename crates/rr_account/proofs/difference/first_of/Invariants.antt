-- The lines so far are the same, and what is left differs.
use Rattle.std.proofs.Common.{◌≡◌, ◌≢◌, ℕ, suc, ◌+◌, ◌≤◌, length}
use Rattle.rr_account.specs.Differences.{behind, are_alike}
use Rattle.rr_account.proofs.difference.first_of.Given as goal

abbrev pub invariant-lines : goal.invariant-lines
invariant-lines l =
    (k : ℕ) × (l.line ≡ suc k) × (l.our_rest ≡ behind k l.fn.ours) × (l.their_rest ≡ behind k l.fn.theirs)
    × are_alike k l.fn.ours l.fn.theirs × (l.our_rest ≢ l.their_rest) × (l.line + length l.our_rest ≤ suc (length l.fn.ours))

abbrev pub decreases-lines : goal.decreases-lines
decreases-lines l = length l.our_rest
