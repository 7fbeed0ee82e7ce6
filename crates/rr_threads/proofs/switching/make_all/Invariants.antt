-- What the device calls so far have left as it was: all of the switch but its stage, and all of the journal but its disk. With those that are
-- left they are six at most.
use Rattle.std.proofs.Common.{◌≡◌, ◌+◌, ◌≤◌}
use Rattle.rr_threads.proofs.Stages.{left_from}
use Rattle.rr_threads.proofs.switching.make_all.Given as goal

abbrev pub invariant-loop-turn : goal.invariant-loop-turn
invariant-loop-turn g l =
    (l.job ≡ record l.initial.job { stage = l.job.stage }) × (l.journal ≡ record l.initial.journal { disk = l.journal.disk }) × (l.turn + left_from l.job.stage ≤ 6)
