use Rattle.std.proofs.Common.{◌≡◌, take}
use Rattle.rr_audit.specs.Following.{IsUnderWay}
use Rattle.rr_audit.proofs.auditing.watch_tape.Given as goal

-- the audit has followed the events so far
abbrev pub invariant-loop-event : goal.invariant-loop-event
invariant-loop-event g l =
    record {
      counted : l.count ≡ l.event-index;
      under_way : IsUnderWay l.tape.nodes (take l.event-index l.events) l.progress;
      unprinted : g.O.Sink.printing l.out ≡ g.O.Sink.printing l.initial.out;
    }
