use Rattle.rr_journal.specs.Phases.{phase_of}
use Rattle.rr_journal.specs.OpeningCourse.{calls_left}
use Rattle.rr_journal.proofs.OpeningEnds.{ComesFrom}
use Rattle.rr_turn.proofs.OpeningLaws.{HasCome}
use Rattle.rr_turn.proofs.opening.finish.Given as goal

abbrev pub invariant-loop-refused : goal.invariant-loop-refused
invariant-loop-refused g l = ComesFrom g.D.Disk.tells g.D.Disk.areas l.fn.opening l.rest × HasCome g.D.Disk.tells g.D.Disk.areas g.D.Disk.calls g.D.Disk.faults l.fn.opening l.rest

abbrev pub decreases-loop-refused : goal.decreases-loop-refused
decreases-loop-refused g l = calls_left (phase_of l.rest.phase)
