use Rattle.rr_journal.specs.Held.{Holds}
use Rattle.rr_journal.proofs.Table.{out_holds, safe_holds, to_safe, same_holds}
use Rattle.rr_journal.proofs.job.Job+BodyOut.step.Goals as goal

pub returns-in-Ok-clause-table : goal.returns-in-Ok-clause-table
returns-in-Ok-clause-table g c tells start facts at =
    let flush = c.args.self in
    let holds = Holds flush.nodes flush.node in
    let old = g.D.Disk.areas c.args.journal.now.disk in
    let new = g.D.Disk.areas c.sync.new.journal.disk in
    let safe = to_safe holds flush start facts old new at (c.in-Ok.ensures.ok tells) in
    (out_holds holds flush start facts old at, safe_holds holds flush start facts new safe, safe)

pub returns-in-Err-clause-table : goal.returns-in-Err-clause-table
returns-in-Err-clause-table g c tells start facts at =
    let flush = c.args.self in
    let holds = Holds flush.nodes flush.node in
    let old = g.D.Disk.areas c.args.journal.now.disk in
    let new = g.D.Disk.areas c.sync.new.journal.disk in
    let held = out_holds holds flush start facts old at in
    (held, same_holds holds flush start facts old new held (c.in-Err.ensures.err tells), tt)
