use Rattle.std.proofs.Common.{length}
use Rattle.rr_core.proofs.absorb.+pool_all.Given as goal

abbrev pub decreases-pool_all : goal.decreases-pool_all
decreases-pool_all l = length l.commands.now
