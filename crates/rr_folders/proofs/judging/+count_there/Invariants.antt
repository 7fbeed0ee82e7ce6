use Rattle.std.proofs.Common.{length}
use Rattle.rr_folders.proofs.judging.+count_there.Given as goal

abbrev pub decreases-count_there : goal.decreases-count_there
decreases-count_there l = length l.found.now
