use Rattle.std.proofs.Common.{◌≡◌}
use Rattle.rr_sim.proofs.DrawingLemmas.{Drawing}
use Rattle.rr_sim.proofs.random_events.draw_all.Given as goal

-- so many events are drawn
abbrev pub invariant-loop-step : goal.invariant-loop-step
invariant-loop-step g l =
    record {
      drawn : Drawing l.nodes l.steps l.initial.generator l.initial.cluster l.initial.events.items l.events.items l.step l.generator l.cluster;
      unprinted : g.O.Sink.printing l.out ≡ g.O.Sink.printing l.initial.out;
    }
