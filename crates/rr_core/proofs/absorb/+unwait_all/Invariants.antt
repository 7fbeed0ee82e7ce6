use Rattle.std.proofs.Common.{length}
use Rattle.rr_core.proofs.absorb.+unwait_all.Given as goal

abbrev pub decreases-unwait_all : goal.decreases-unwait_all
decreases-unwait_all l = length l.requests.now
