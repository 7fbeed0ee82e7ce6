use Rattle.rr_journal.specs.Phases.{phase_of}
use Rattle.rr_journal.specs.OpeningCourse.{calls_left}
use Rattle.rr_journal.proofs.CourseLaws.{HasRun}
use Rattle.rr_journal.proofs.OpeningEnds.{ComesFrom}
use Rattle.rr_journal.proofs.opening.Opening.finish.Given as goal

abbrev pub invariant-loop-refused : goal.invariant-loop-refused
invariant-loop-refused g l = ComesFrom g.D.Disk.tells g.D.Disk.areas l.fn.self l.opening × HasRun g.D.Disk.tells g.D.Disk.areas g.D.Disk.calls g.D.Disk.faults l.fn.self l.opening

abbrev pub decreases-loop-refused : goal.decreases-loop-refused
decreases-loop-refused g l = calls_left (phase_of l.opening.phase)
