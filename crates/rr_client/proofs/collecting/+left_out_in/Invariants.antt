use Rattle.std.proofs.Common.{length}
use Rattle.rr_client.proofs.collecting.+left_out_in.Given as goal

abbrev pub decreases-left_out_in : goal.decreases-left_out_in
decreases-left_out_in g l = length l.places.now
