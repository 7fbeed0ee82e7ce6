use Rattle.std.proofs.Common.{◌≡◌}
use Rattle.rr_sim.proofs.DrawnLaws.{DrawnSoFar}
use Rattle.rr_sim.proofs.random_text.tell_drawn.Given as goal

-- so many events are drawn, made and told
abbrev pub invariant-loop-step : goal.invariant-loop-step
invariant-loop-step g l =
    record {
      drawn : DrawnSoFar l.nodes l.steps l.initial.generator l.initial.texts.schedule.items l.step l.line l.generator l.cluster l.texts.schedule.items l.texts.report.items;
      unprinted : g.O.Sink.printing l.out ≡ g.O.Sink.printing l.initial.out;
    }
