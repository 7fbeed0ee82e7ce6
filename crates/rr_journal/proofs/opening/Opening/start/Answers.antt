use Rattle.rr_journal.specs.OpeningTable.{contents}
use Rattle.rr_journal.proofs.CrashLaws.{begins, begins_any}
use Rattle.rr_journal.proofs.opening.Opening.start.Goals as goal

pub returns-clause-some : goal.returns-clause-some
returns-clause-some g c few_first few_second stands some =
    let both = g.D.Disk.areas c.args.disk in
    let held = some (contents both) stands in
    (held.0, (contents both, stands, held.1), begins c.args.nodes c.args.node held.0 both few_first few_second held.1)

pub returns-clause-rests : goal.returns-clause-rests
returns-clause-rests g c few_first few_second = begins_any (g.D.Disk.areas c.args.disk) few_first few_second
