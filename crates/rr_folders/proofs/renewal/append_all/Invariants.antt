-- What is written so far, and what is left.
use Rattle.std.proofs.Common.{◌≡◌, [], length}
use Rattle.rr_folders.specs.Renewal.{HoldsNow}
use Rattle.rr_folders.proofs.RenewalLemmas.{IsWritten}
use Rattle.rr_folders.proofs.renewal.append_all.Given as goal

abbrev pub invariant-loop-rest : goal.invariant-loop-rest
invariant-loop-rest g l =
    ((l.journal.nodes ≡ l.fn.journal.nodes) × (l.journal.node ≡ l.fn.journal.node))
    × (g.D.Disk.tells l.fn.journal.disk → g.D.Disk.tells l.journal.disk)
    × (g.D.Disk.tells l.fn.journal.disk → HoldsNow g.D.Disk.areas l.fn.journal [] → l.fn.journal.next ≡ 0 → IsWritten g.D.Disk.areas l.fn.commands l.rest l.journal)

abbrev pub decreases-loop-rest : goal.decreases-loop-rest
decreases-loop-rest g l = length l.rest
