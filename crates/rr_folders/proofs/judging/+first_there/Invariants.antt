use Rattle.std.proofs.Common.{length}
use Rattle.rr_folders.proofs.judging.+first_there.Given as goal

abbrev pub decreases-first_there : goal.decreases-first_there
decreases-first_there l = length l.found.now
