use Rattle.std.proofs.Common.{length}
use Rattle.rr_folders.proofs.judging.+first_identity.Given as goal

abbrev pub decreases-first_identity : goal.decreases-first_identity
decreases-first_identity l = length l.found.now
