use Rattle.std.proofs.Common.{arith, ◌∙◌}
use Rattle.rr_sim.specs.Clusters.{Cluster}
use Rattle.rr_sim.proofs.ActLaws.{spelt_but}
use Rattle.rr_sim.proofs.cluster.Cluster.step_at.Goals as goal

pub returns-clause-spelt : goal.returns-clause-spelt
returns-clause-spelt c =
    let before : Cluster = record { seats = c.self.inside.seats.items; wire = c.self.inside.wire.items; lines = c.self.inside.lines.items } in
    spelt_but c.from-at.result c.args.node before c.take_down.new.self c.index_mut-seat.result.now c.step-answer.new.self c.step-answer.result
    (c.from-at.ensures ∙ c.index.ensures.value) (omega (arith, c.if-at-len.false, c.len.ensures, c.self.inside.seats.ok.0)) c.index_mut-seat.ensures.value _ c.take_down.result c.take_down.ensures.ok c.step-answer.ensures.spelt
