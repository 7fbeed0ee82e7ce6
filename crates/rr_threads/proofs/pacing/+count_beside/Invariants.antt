use Rattle.std.proofs.Common.{length}
use Rattle.rr_threads.proofs.pacing.+count_beside.Given as goal

abbrev pub decreases-count_beside : goal.decreases-count_beside
decreases-count_beside l = length l.others.now
