use Rattle.rr_sim.proofs.cluster.Cluster.take_down.Goals as goal

pub returns-in_ok-take_outcome-in-Ok : goal.returns-in_ok-take_outcome-in-Ok
returns-in_ok-take_outcome-in-Ok c = record { ok = λ at. rw c.in-Ok.is (c.in_ok-take_outcome-in-Ok.ensures.ok at) }
