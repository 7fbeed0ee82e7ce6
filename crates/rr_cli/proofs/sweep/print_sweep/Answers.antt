use Rattle.std.proofs.Common.{◌≡◌, ℕ, ◌+◌, ◌<◌, ◌≤◌, List, ◌++◌, [], ◌∷◌, length, get_or, drop, take, refl, subst, arith}
use Rattle.std.proofs.lemmas.Result.{err_from_is_err_and}
use Rattle.rr_text.specs.declared.event.Event.{Event}
use Rattle.rr_sim.specs.Sweeps.{HasSwept, IsNext}
use Rattle.rr_cli.proofs.SweepLemmas.{is_sweep, next_at, taken_more, split_at, printed_none, printed_more, stops_at}
use Rattle.rr_cli.proofs.sweep.print_sweep.Goals as goal

pub loop-event-init : goal.loop-event-init
loop-event-init g c =
    let s = c.args.schedule.now in
    let few : c.nodes.result ≤ 7 = rw c.nodes.ensures c.events-event-items.ensures.valid.few in
    record {
      number = refl;
      printed = printed_none s.nodes c.args.seed (g.O.Sink.printing c.args.out.now);
      swept = subst (λ (n : ℕ). HasSwept n s.nodes c.args.seed [] [] c.in-Ok.sweeping) c.nodes.ensures (c.in-Ok.ensures.ok s.nodes few);
    }

pub returns-in_err-print_event-clause-err : goal.returns-in_err-print_event-clause-err
returns-in_err-print_event-clause-err g c =
    let s = c.args.schedule.now in
    let i = c.loop-event.event-index in
    let p = c.loop-event.invariant.printed in
    let e = c.event-item.result in
    let below : i < length s.events = rw c.events-event-items.ensures.value at c.loop-event-test.true in
    let is : e ≡ get_or s.events i e = rw c.events-event-items.ensures.value at c.event-item.is in
    let next : IsNext s.nodes s.nodes c.args.seed (take i s.events) p.lines c.loop-event.line e c.loop-event.sweeping =
    next_at s.nodes c.args.seed s.events i c.loop-event.line e p.lines c.loop-event.sweeping c.loop-event.invariant.swept c.events-event-items.ensures.valid.each below is c.loop-event.invariant.number in
    let returned = err_from_is_err_and c.from_residual.result c.from_residual.ensures.1 in
    rw (returned.1, returned.2)
    (stops_at s.nodes c.args.seed s.events (take i s.events) (e ∷ []) (drop (i + 1) s.events) (g.O.Sink.printing c.args.out.now) (g.O.Sink.printing c.loop-event.out) (g.O.Sink.printing c.print_event.new.out)
    c.in_err-print_event.field-0.0 p (split_at s.events i e below is)
    (c.in_err-print_event.ensures.err s.nodes s.nodes c.args.seed (take i s.events) p.lines next))

pub loop-event-preserved : goal.loop-event-preserved
loop-event-preserved g c =
    let s = c.args.schedule.now in
    let i = c.loop-event.event-index in
    let p = c.loop-event.invariant.printed in
    let e = c.event-item.result in
    let below : i < length s.events = rw c.events-event-items.ensures.value at c.loop-event-test.true in
    let is : e ≡ get_or s.events i e = rw c.events-event-items.ensures.value at c.event-item.is in
    let next : IsNext s.nodes s.nodes c.args.seed (take i s.events) p.lines c.loop-event.line e c.loop-event.sweeping =
    next_at s.nodes c.args.seed s.events i c.loop-event.line e p.lines c.loop-event.sweeping c.loop-event.invariant.swept c.events-event-items.ensures.valid.each below is c.loop-event.invariant.number in
    let found = c.in_ok-print_event.ensures.ok s.nodes s.nodes c.args.seed (take i s.events) p.lines next in
    let more = found.0 in
    let has : HasSwept s.nodes s.nodes c.args.seed (take (i + 1) s.events) (p.lines ++ more) c.print_event.new.sweeping =
    subst (λ (es : List Event). HasSwept s.nodes s.nodes c.args.seed es (p.lines ++ more) c.print_event.new.sweeping) (taken_more s.events i e below is) found.1 in
    record {
      number = omega (arith, c.loop-event.invariant.number);
      printed = printed_more s.nodes c.args.seed (take i s.events) (take (i + 1) s.events) (g.O.Sink.printing c.args.out.now) (g.O.Sink.printing c.loop-event.out) (g.O.Sink.printing c.print_event.new.out) more p
          (is_sweep s.nodes s.nodes c.args.seed (take (i + 1) s.events) (p.lines ++ more) c.print_event.new.sweeping has) found.2 c.print_event.ensures.faults;
      swept = has;
    }
