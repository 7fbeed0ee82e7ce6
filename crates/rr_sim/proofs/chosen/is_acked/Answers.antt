use Rattle.std.proofs.Common.{rules}
use Rattle.rr_sim.specs.Chosen.{is_majority}
use Rattle.rr_sim.proofs.chosen.is_acked.Goals as goal

pub returns : goal.returns
unfolding is_majority
returns c = search rules
