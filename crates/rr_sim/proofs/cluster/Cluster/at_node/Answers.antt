use Rattle.std.proofs.Common.{◌≡◌, ◌<◌, ℕ, length, arith, refl, subst, ◌∙◌, Some, Ok, Err}
use Rattle.std.specs.Prelude.{slice_set}
use Rattle.rr_node.specs.declared.event.Outcome.TheVariants.{Quiet}
use Rattle.rr_sim.specs.Clusters.{Cluster, at_node, with_refusal, IsEither}
use Rattle.rr_sim.proofs.FailingLaws.{gave_so, placed_quietly, placed_refused, spelt_so}
use Rattle.rr_sim.proofs.cluster.Cluster.at_node.Goals as goal
use Rattle.rr_sim.proofs.cluster.Cluster.at_node.Goals.{After-step_quietly}

-- the cluster before
before : After-step_quietly → Cluster
before c = record { seats = c.self.inside.seats.items; wire = c.self.inside.wire.items; lines = c.self.inside.lines.items }

at_it : (c : After-step_quietly) → c.from-at.result ≡ c.args.node
at_it c = c.from-at.ensures ∙ c.index.ensures.value

is_there : (c : After-step_quietly) → c.from-at.result < length c.self.inside.seats.items
is_there c = omega (arith, c.if-at-len.false, c.len.ensures, c.self.inside.seats.ok.0)

-- the cluster after, but for the line of a refusal
after : After-step_quietly → Cluster
after c = record { seats = slice_set c.self.inside.seats.items c.from-at.result c.step_quietly.new.self; wire = c.self.inside.wire.items; lines = c.self.inside.lines.items }

pub returns-in-Some-Ok-clause-ok : goal.returns-in-Some-Ok-clause-ok
unfolding before after
returns-in-Some-Ok-clause-ok c at =
    let b = (goal.at.returns-in-Some-Ok-clause-ok c).After-step_quietly in
    let gives = rw c.in-Some-Ok.field-0-is at c.in-Some-Ok.ensures.gives in
    subst (λ (x : Cluster). IsEither (λ starved. after b ≡ at_node c.args.node at starved c.args.event.now x)) c.self.view_is
    (gave_so (Ok tt) c.from-at.result c.args.node at (before b) (after b) c.index_mut-seat.result.now c.step_quietly.new.self (Ok Quiet)
    (at_it b) (is_there b) c.index_mut-seat.ensures.value (placed_quietly c.from-at.result c.args.node at (before b) c.step_quietly.new.self) c.args.event.now gives)

pub returns-in-Some-Ok-clause-spelt : goal.returns-in-Some-Ok-clause-spelt
unfolding before after
returns-in-Some-Ok-clause-spelt c =
    let b = (goal.at.returns-in-Some-Ok-clause-spelt c).After-step_quietly in
    spelt_so (Ok tt) c.from-at.result c.args.node 0 (before b) (after b) c.index_mut-seat.result.now c.step_quietly.new.self (Ok Quiet)
    (at_it b) (is_there b) c.index_mut-seat.ensures.value (placed_quietly c.from-at.result c.args.node 0 (before b) c.step_quietly.new.self) c.step_quietly.ensures.spelt

pub returns-in-Some-Err-clause-ok : goal.returns-in-Some-Err-clause-ok
unfolding before after
returns-in-Some-Err-clause-ok c at =
    let b = (goal.at.returns-in-Some-Err-clause-ok c).After-step_quietly in
    let told = with_refusal at (Some c.in-Some-Err.refusal) (after b) in
    let gives = rw c.in-Some-Err.field-0-is at c.in-Some-Err.ensures.gives in
    rw c.in-Some-Err.refusal-is
    (subst (λ (x : Cluster). IsEither (λ starved. told ≡ at_node c.args.node at starved c.args.event.now x)) c.self.view_is
    (gave_so (Ok tt) c.from-at.result c.args.node at (before b) told c.index_mut-seat.result.now c.step_quietly.new.self (Err c.in-Some-Err.refusal)
    (at_it b) (is_there b) c.index_mut-seat.ensures.value
    (placed_refused (Ok tt) c.from-at.result c.args.node at (before b) told c.step_quietly.new.self c.in-Some-Err.refusal refl) c.args.event.now gives))

pub returns-in-Some-Err-clause-spelt : goal.returns-in-Some-Err-clause-spelt
unfolding before after
returns-in-Some-Err-clause-spelt c =
    let b = (goal.at.returns-in-Some-Err-clause-spelt c).After-step_quietly in
    spelt_so (Ok tt) c.from-at.result c.args.node 0 (before b) (after b) c.index_mut-seat.result.now c.step_quietly.new.self (Ok Quiet)
    (at_it b) (is_there b) c.index_mut-seat.ensures.value (placed_quietly c.from-at.result c.args.node 0 (before b) c.step_quietly.new.self) c.step_quietly.ensures.spelt
