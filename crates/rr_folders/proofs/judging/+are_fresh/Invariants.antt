use Rattle.std.proofs.Common.{length}
use Rattle.rr_folders.proofs.judging.+are_fresh.Given as goal

abbrev pub decreases-are_fresh : goal.decreases-are_fresh
decreases-are_fresh l = length l.found.now
