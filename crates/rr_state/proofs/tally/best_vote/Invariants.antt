use Rattle.std.proofs.Common.{◌≡◌, ◌≤◌, length, drop, None, Some}
use Rattle.std.specs.Prelude.{MatchOption}
use Rattle.rr_model.specs.NodeDue.{best_vote}
use Rattle.rr_state.proofs.tally.best_vote.Given as goal

abbrev pub invariant-loop-left : goal.invariant-loop-left
invariant-loop-left l =
    (l.left ≤ length l.votes)
    × MatchOption l.best (best_vote (drop l.left l.votes) ≡ None) (λ v. best_vote (drop l.left l.votes) ≡ Some v.now)

abbrev pub decreases-loop-left : goal.decreases-loop-left
decreases-loop-left l = l.left
