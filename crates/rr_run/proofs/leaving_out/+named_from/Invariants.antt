use Rattle.std.proofs.Common.{length}
use Rattle.rr_run.proofs.leaving_out.+named_from.Given as goal

abbrev pub decreases-named_from : goal.decreases-named_from
decreases-named_from l = length l.list.now
