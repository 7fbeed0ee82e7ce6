use Rattle.std.proofs.Common.{◌≡◌, ◌++◌, take, drop}
use Rattle.rr_model.specs.NodeStep.{with_vote}
use Rattle.rr_state.proofs.tally.vote_place.Given as goal

abbrev pub invariant-loop-at : goal.invariant-loop-at
invariant-loop-at l = with_vote l.fn.vote l.votes ≡ take l.at l.votes ++ with_vote l.fn.vote (drop l.at l.votes)
