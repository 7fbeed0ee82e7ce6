use Rattle.std.proofs.Common.{◌≡◌, length}
use Rattle.rr_sim.proofs.ToldLaws.{ToldSoFar}
use Rattle.rr_sim.proofs.telling.tell_events.Given as goal

-- what the lines so far tell is told
abbrev pub invariant-loop-event : goal.invariant-loop-event
invariant-loop-event g l =
    record {
      told : ToldSoFar l.nodes l.bytes l.initial.cluster l.initial.text.items l.line l.rest l.cluster l.text.items;
      unprinted : g.O.Sink.printing l.out ≡ g.O.Sink.printing l.initial.out;
    }

abbrev pub decreases-loop-event : goal.decreases-loop-event
decreases-loop-event g l = length l.rest
