use Rattle.rr_sim.proofs.WaitingLaws.{waits_where}
use Rattle.rr_sim.proofs.cluster.Cluster.refusal_at.Goals as goal

pub returns-in-Some-clause-refused : goal.returns-in-Some-clause-refused
returns-in-Some-clause-refused c = waits_where c.refusal.result c.args.node c.in-Some.seat.now c.args.self.now c.in-Some.ensures c.refusal.ensures.refused
