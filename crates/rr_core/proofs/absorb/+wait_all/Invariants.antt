use Rattle.std.proofs.Common.{length}
use Rattle.rr_core.proofs.absorb.+wait_all.Given as goal

abbrev pub decreases-wait_all : goal.decreases-wait_all
decreases-wait_all l = length l.requests.now
