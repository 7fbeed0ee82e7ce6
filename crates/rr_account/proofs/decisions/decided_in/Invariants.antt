-- The instances that the events so far decide.
use Rattle.rr_account.proofs.HeardLaws.{DecidedSoFar}
use Rattle.rr_account.proofs.decisions.decided_in.Given as goal

abbrev pub invariant-loop-place : goal.invariant-loop-place
invariant-loop-place l = DecidedSoFar l.fn.nodes l.seen l.place l.all.items l.before
