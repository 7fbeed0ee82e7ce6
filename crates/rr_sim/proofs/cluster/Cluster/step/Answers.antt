use Rattle.std.proofs.Common.{Some}
use Rattle.rr_sim.specs.Clusters.{with_refusal}
use Rattle.rr_sim.proofs.ActLaws.{step_spelt}
use Rattle.rr_sim.proofs.cluster.Cluster.step.Goals as goal

pub returns-in-None-clause-spelt : goal.returns-in-None-clause-spelt
returns-in-None-clause-spelt c = (rw c.in-None.is at c.in_ok-take.ensures.spelt) c.args.line

pub returns-in-Some-clause-spelt : goal.returns-in-Some-clause-spelt
returns-in-Some-clause-spelt c =
    let next = with_refusal c.args.line (Some c.in-Some.refusal) c.take.new.self in
    step_spelt _ c.refuse.result c.args.event.now c.args.self.now next c.refuse.new.self ((rw c.in-Some.is at c.in_ok-take.ensures.spelt) c.args.line) c.refuse.ensures.ok
