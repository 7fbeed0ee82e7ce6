use Rattle.std.proofs.Common.{length}
use Rattle.rr_core.proofs.absorb.+unpool_all.Given as goal

abbrev pub decreases-unpool_all : goal.decreases-unpool_all
decreases-unpool_all l = length l.commands.now
