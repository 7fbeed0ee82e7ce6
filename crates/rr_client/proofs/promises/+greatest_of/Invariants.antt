use Rattle.std.proofs.Common.{length}
use Rattle.rr_client.proofs.promises.+greatest_of.Given as goal

abbrev pub decreases-greatest_of : goal.decreases-greatest_of
decreases-greatest_of l = length l.promises.now
