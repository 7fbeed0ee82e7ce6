use Rattle.std.proofs.Common.{◌≡◌, ℕ, List, arith, subst, ◌∙◌}
use Rattle.std.specs.Prelude.{IfOk}
use Rattle.rr_node.specs.Seats.{Fails}
use Rattle.rr_sim.specs.Clusters.{Cluster, fail_at, with_refusal, IsEither}
use Rattle.rr_sim.proofs.ActLaws.{failed_but, spelt_but}
use Rattle.rr_sim.proofs.cluster.Cluster.fail_at.Goals as goal

pub returns-clause-ok : goal.returns-clause-ok
returns-clause-ok c =
    let before : Cluster = record { seats = c.self.inside.seats.items; wire = c.self.inside.wire.items; lines = c.self.inside.lines.items } in
    let fails : Fails c.args.fill.now c.index_mut-seat.result.now c.fail-answer.result c.fail-answer.new.self =
    subst (λ (bytes : List ℕ). Fails bytes c.index_mut-seat.result.now c.fail-answer.result c.fail-answer.new.self) c.in_ok-fill.ensures.items c.fail-answer.ensures.fails in
    subst (λ (x : Cluster). IfOk c.take_down.result (λ refused. (at : ℕ) → IsEither (λ starved. with_refusal at refused c.take_down.new.self ≡ fail_at c.args.node at starved c.args.fill.now x))) c.self.view_is (
    failed_but c.from-at.result c.args.node before c.take_down.new.self c.index_mut-seat.result.now c.fail-answer.new.self c.fail-answer.result
    (c.from-at.ensures ∙ c.index.ensures.value) (omega (arith, c.if-at-len.false, c.len.ensures, c.self.inside.seats.ok.0)) c.index_mut-seat.ensures.value _ c.take_down.result c.take_down.ensures.ok c.args.fill.now fails
    )

pub returns-clause-spelt : goal.returns-clause-spelt
returns-clause-spelt c =
    let before : Cluster = record { seats = c.self.inside.seats.items; wire = c.self.inside.wire.items; lines = c.self.inside.lines.items } in
    spelt_but c.from-at.result c.args.node before c.take_down.new.self c.index_mut-seat.result.now c.fail-answer.new.self c.fail-answer.result
    (c.from-at.ensures ∙ c.index.ensures.value) (omega (arith, c.if-at-len.false, c.len.ensures, c.self.inside.seats.ok.0)) c.index_mut-seat.ensures.value _ c.take_down.result c.take_down.ensures.ok c.fail-answer.ensures.spelt
