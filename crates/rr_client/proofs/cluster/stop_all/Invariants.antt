-- Of the nodes so far those of the set are stopped.
use Rattle.rr_client.specs.Seating.{AreStopped}
use Rattle.rr_client.proofs.cluster.stop_all.Given as goal

abbrev pub invariant-nodes : goal.invariant-nodes
invariant-nodes l = AreStopped l.index l.fn.without l.stopped
