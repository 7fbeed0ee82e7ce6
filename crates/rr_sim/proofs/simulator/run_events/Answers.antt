use Rattle.std.proofs.Common.{List, arith, drop, refl, subst, sym}
use Rattle.std.proofs.Math.ListN.{drop_of_length-le}
use Rattle.rr_text.specs.declared.event.Event.{Event}
use Rattle.rr_sim.specs.Clusters.{LeadsSpelt}
use Rattle.rr_sim.proofs.HeadlineLaws.{leads_too}
use Rattle.rr_sim.proofs.simulator.run_events.Goals as goal

pub returns-clause-ok : goal.returns-clause-ok
returns-clause-ok c =
    let end = c.loop-event.cluster in
    let none = drop_of_length-le c.args.events.now {i = c.loop-event.event-index} (omega (arith, c.loop-event-test.false)) in
    let spelt : LeadsSpelt c.loop-event.line (drop c.loop-event.event-index c.args.events.now) end end = subst (λ (es : List Event). LeadsSpelt c.loop-event.line es end end) (sym none) refl in
    leads_too 2 c.args.events.now c.args.cluster.now end (c.loop-event.invariant.1 end spelt)
