use Rattle.std.proofs.Common.{◌≡◌, ◌+◌, take}
use Rattle.rr_sim.specs.Sweeps.{HasSwept}
use Rattle.rr_cli.specs.Sweeping.{IsPrintedBy}
use Rattle.rr_cli.proofs.sweep.print_sweep.Given as goal

-- the lines of the events so far are printed
abbrev pub invariant-loop-event : goal.invariant-loop-event
invariant-loop-event g l =
    record {
      number : l.line ≡ l.event-index + 2;
      printed : IsPrintedBy l.schedule.nodes l.seed (take l.event-index l.schedule.events) (g.O.Sink.printing l.initial.out) (g.O.Sink.printing l.out);
      swept : HasSwept l.schedule.nodes l.schedule.nodes l.seed (take l.event-index l.schedule.events) printed.lines l.sweeping;
    }
