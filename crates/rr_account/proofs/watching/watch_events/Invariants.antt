use Rattle.std.proofs.Common.{◌≡◌}
use Rattle.rr_account.proofs.StepLaws.{WatchedSoFar}
use Rattle.rr_account.proofs.watching.watch_events.Given as goal

-- the events so far were watched, and nothing is printed
abbrev pub invariant-loop-event : goal.invariant-loop-event
invariant-loop-event g l =
    record {
      watched : WatchedSoFar l.events l.outcomes.items l.event-index l.line l.initial.cluster l.cluster;
      unprinted : g.O.Sink.printing l.out ≡ g.O.Sink.printing l.initial.out;
    }
