use Rattle.std.proofs.Common.{◌≡◌, ◌≤◌}
use Rattle.rr_lively.specs.Lively.{IsSoFar}
use Rattle.rr_lively.specs.Finishes.{Adds}
use Rattle.rr_lively.proofs.finish.go_on.Given as goal

-- the events so far go on from those that were given
abbrev pub invariant-loop-step : goal.invariant-loop-step
invariant-loop-step g l =
    record {
      so_far : IsSoFar l.nodes l.going.line l.going.cluster l.going.schedule.items l.going.report.items;
      below : l.going.line ≤ 1000002;
      adds : Adds l.nodes l.initial.going.schedule.items l.going.schedule.items;
      unprinted : g.O.Sink.printing l.out ≡ g.O.Sink.printing l.initial.out;
    }
