-- What is left tells what the whole does.
use Rattle.std.proofs.Common.{◌≡◌, drop}
use Rattle.rr_threads.specs.Reusing.{follow}
use Rattle.rr_threads.proofs.reused.follow.Given as goal

abbrev pub invariant-loop-reused : goal.invariant-loop-reused
invariant-loop-reused l = follow l.lines l.last (drop l.reused-index l.rest) ≡ follow l.lines l.first l.rest
