use Rattle.std.proofs.Common.{◌≡◌, [], length}
use Rattle.rr_sim.specs.Clusters.{new_cluster}
use Rattle.rr_sim.proofs.ToldLaws.{ToldSoFar}
use Rattle.rr_lively.proofs.finish.read_run.Given as goal

-- what the lines so far tell is told
abbrev pub invariant-loop-report : goal.invariant-loop-report
invariant-loop-report g l =
    record {
      told : ToldSoFar l.nodes l.lines (new_cluster l.nodes) [] l.line l.rest l.cluster l.report.items;
      unprinted : g.O.Sink.printing l.out ≡ g.O.Sink.printing l.initial.out;
    }

abbrev pub decreases-loop-report : goal.decreases-loop-report
decreases-loop-report g l = length l.rest
