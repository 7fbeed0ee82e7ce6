use Rattle.std.proofs.Common.{List, arith, drop, refl, subst, sym}
use Rattle.std.proofs.Math.ListN.{drop_of_length-le}
use Rattle.rr_text.specs.declared.event.Event.{Event}
use Rattle.rr_sim.specs.Clusters.{LeadsSpelt}
use Rattle.rr_sim.specs.Random.{LeadsInMemory}
use Rattle.rr_sim.proofs.OpenedLaws.{opened_so, leads_more, spelt_more}
use Rattle.rr_sim.proofs.random_events.opened.Goals as goal

pub loop-event-preserved : goal.loop-event-preserved
loop-event-preserved c =
    let events = c.args.events.now in
    let i = c.loop-event.event-index in
    let at = c.loop-event.line in
    let e = c.event-item.result in
    let old = c.loop-event.cluster in
    let next = c.step_in_memory.new.self in
    let step = c.in_ok-step_in_memory.ensures in
    let number = c.loop-event.invariant.0 in (
      omega (arith, number),
      λ end led. c.loop-event.invariant.1 end (leads_more at i events e old next end c.loop-event-test.true c.event-item.is step.ok led),
      λ end led. c.loop-event.invariant.2 end (spelt_more at i events e old next end c.loop-event-test.true c.event-item.is step.ok step.spelt led),
    )

pub returns-clause-ok : goal.returns-clause-ok
returns-clause-ok c =
    let end = c.loop-event.cluster in
    let none = drop_of_length-le c.args.events.now {i = c.loop-event.event-index} (omega (arith, c.loop-event-test.false)) in
    let led : LeadsInMemory c.loop-event.line (drop c.loop-event.event-index c.args.events.now) end end = subst (λ (es : List Event). LeadsInMemory c.loop-event.line es end end) (sym none) refl in
    opened_so c.args.nodes c.args.events.now end c.requires (c.loop-event.invariant.1 end led)

pub returns-clause-spelt : goal.returns-clause-spelt
returns-clause-spelt c =
    let end = c.loop-event.cluster in
    let none = drop_of_length-le c.args.events.now {i = c.loop-event.event-index} (omega (arith, c.loop-event-test.false)) in
    let led : LeadsSpelt c.loop-event.line (drop c.loop-event.event-index c.args.events.now) end end = subst (λ (es : List Event). LeadsSpelt c.loop-event.line es end end) (sym none) refl in
    c.loop-event.invariant.2 end led
