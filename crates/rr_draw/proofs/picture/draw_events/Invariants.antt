use Rattle.std.proofs.Common.{◌≡◌, length}
use Rattle.rr_draw.proofs.PictureLaws.{ShownSoFar}
use Rattle.rr_draw.proofs.picture.draw_events.Given as goal

-- what the lines so far tell is told and drawn
abbrev pub invariant-loop-elements : goal.invariant-loop-elements
invariant-loop-elements g l =
    record {
      shown : ShownSoFar l.nodes l.bytes l.cut l.initial.cluster l.initial.report.items l.line l.rest l.cluster l.report.items l.elements.items l.picture.heard;
      unprinted : g.O.Sink.printing l.out ≡ g.O.Sink.printing l.initial.out;
    }

abbrev pub decreases-loop-elements : goal.decreases-loop-elements
decreases-loop-elements g l = length l.rest
