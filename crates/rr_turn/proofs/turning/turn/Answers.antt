use Rattle.std.proofs.Common.{refl, ap}
use Rattle.std.specs.Duration.{as_nanos}
use Rattle.std.proofs.lemmas.Result.{on_ok_weaker}
use Rattle.rr_turn.specs.Ticks.{is_tick_due}
use Rattle.rr_turn.proofs.TickLaws.{ticks_if}
use Rattle.rr_turn.proofs.turning.turn.Goals as goal

pub returns : goal.returns
returns g c =
    let old = c.args.clockwork.now in
    let new = c.tick_next.new.clockwork in
    let time = as_nanos c.in_ok-now.now in
    let timed = c.read_clock.new.self in
    on_ok_weaker c.tick_next.result
    (λ due. record {
      has = c.in_ok-has.has;
      now = time;
      looked_chase = c.look.new.chase;
      looked_at = c.look.new.links;
      rested_at = c.rest_unless.new.links;
      timed_at = timed;
      looks = c.in_ok-has.ensures;
      pauses = c.in_ok-rest_unless.ensures;
      reads = c.in_ok-now.ensures;
      due = due;
      ticks = c.tick_next.ensures.ticks;
    })
    (ticks_if g.L.Links.gives c.tick_next.result (is_tick_due time old.ticks) _ c.args.room c.look.new.chase old.standstill timed c.tick_next.new.chase new.standstill c.tick_next.new.links refl
    c.tick_next.ensures.due (λ is. let e = c.tick_next.ensures.early is in (e.1, e.2, ap (λ k. k.standstill) e.3)))
