use Rattle.std.proofs.Common.{length}
use Rattle.rr_folders.proofs.judging.+first_left_out.Given as goal

abbrev pub decreases-first_left_out : goal.decreases-first_left_out
decreases-first_left_out l = length l.found.now
