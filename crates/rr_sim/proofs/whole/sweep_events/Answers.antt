use Rattle.std.proofs.Common.{refl, ◌≡◌, ◌∷◌, ◌++◌, [], List, take, subst, sym, arith}
use Rattle.std.proofs.lemmas.List.{take_all}
use Rattle.rr_text.specs.declared.event.Event.{Event}
use Rattle.rr_sim.specs.declared.sweeping.SweepLine.{SweepLine}
use Rattle.rr_sim.specs.Sweeps.{HasSwept, IsNext}
use Rattle.rr_sim.proofs.AllEvents.{is_next, taken_on}
use Rattle.rr_sim.proofs.Swept.{swept_all}
use Rattle.rr_sim.proofs.whole.sweep_events.Goals as goal

pub loop-event-init : goal.loop-event-init
loop-event-init c = (refl, λ m each. subst (λ (lines : List SweepLine). HasSwept c.args.nodes m c.args.seed [] lines c.in_ok-sweeping.sweeping) (sym c.new-lines.ensures.items) (c.in_ok-sweeping.ensures.ok m c.requires.few))

pub step-requires : goal.step-requires
step-requires c =
    let r = c.requires.ranges in
    let index = c.loop-event.event-index in
    let before = c.loop-event.lines.items in (
      c.args.nodes,
      r.0,
      c.args.seed,
      take index c.args.events.now,
      before,
      is_next c.args.nodes r.0 c.args.seed c.args.events.now r.1 c.requires.here index c.loop-event.line before c.event-item.result c.loop-event.sweeping c.loop-event-test.true c.event-item.is c.loop-event.invariant.0 (c.loop-event.invariant.1 r.0 r.1),
    )

pub loop-event-preserved : goal.loop-event-preserved
loop-event-preserved c =
    let index = c.loop-event.event-index in
    let events = c.args.events.now in
    let before = c.loop-event.lines.items in
    let e = c.event-item.result in
    let number = c.loop-event.invariant.0 in (
      omega (arith, number),
      λ m each.
          let next : IsNext c.args.nodes m c.args.seed (take index events) before c.loop-event.line e c.loop-event.sweeping = is_next c.args.nodes m c.args.seed events each c.requires.here index c.loop-event.line before e c.loop-event.sweeping c.loop-event-test.true c.event-item.is number (c.loop-event.invariant.1 m each) in
          let swept = c.in_ok-more.ensures.ok c.args.nodes m c.args.seed (take index events) before next in
          subst (λ (es : List Event). HasSwept c.args.nodes m c.args.seed es c.append.new.lines.items c.step.new.self) (taken_on events index e c.loop-event-test.true c.event-item.is)
          (subst (λ (lines : List SweepLine). HasSwept c.args.nodes m c.args.seed (take index events ++ e ∷ []) lines c.step.new.self) (sym c.in_ok-append.ensures.ok) swept),
    )

pub returns : goal.returns
returns c =
    record {
      lines = let r = c.requires.ranges in
          let events = c.args.events.now in
          let before = c.loop-event.lines.items in
          let whole : take c.loop-event.event-index events ≡ events = take_all c.loop-event.event-index events (omega (arith, c.loop-event-test.false)) in
          swept_all c.args.nodes r.0 c.args.seed events before c.loop-event.sweeping
          (subst (λ (es : List Event). HasSwept c.args.nodes r.0 c.args.seed es before c.loop-event.sweeping) whole (c.loop-event.invariant.1 r.0 r.1));
    }
