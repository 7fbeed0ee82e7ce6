use Rattle.std.proofs.Common.{length}
use Rattle.rr_folders.proofs.judging.+first_fault.Given as goal

abbrev pub decreases-first_fault : goal.decreases-first_fault
decreases-first_fault l = length l.found.now
