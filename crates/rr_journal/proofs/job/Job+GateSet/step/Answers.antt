use Rattle.std.proofs.Common.{◌≡◌, ◌∙◌, ap}
use Rattle.rr_journal.specs.Held.{Holds}
use Rattle.rr_journal.specs.declared.journal.Journal.{Journal}
use Rattle.rr_journal.proofs.Table.{set_holds, group_holds, to_group, same_either}
use Rattle.rr_journal.proofs.job.Job+GateSet.step.Goals as goal

pub returns-in-Ok-clause-table : goal.returns-in-Ok-clause-table
returns-in-Ok-clause-table g c tells start facts at =
    let flush = c.args.self in
    let holds = Holds flush.nodes flush.node in
    let old = g.D.Disk.areas c.args.journal.now.disk in
    let new = g.D.Disk.areas c.note_end.new.self.disk in
    let same : c.note_end.new.self.disk ≡ c.sync.new.journal.disk = ap (λ (j : Journal g.row.D.Denot). j.disk) c.note_end.ensures in
    let stands = ap g.D.Disk.areas same ∙ to_group holds flush start facts old (g.D.Disk.areas c.sync.new.journal.disk) at (c.in-Ok.ensures.ok tells) in
    (set_holds holds flush start facts old at, tt, group_holds holds flush start facts new at.grounded stands, stands)

pub returns-in-Err-clause-table : goal.returns-in-Err-clause-table
returns-in-Err-clause-table g c tells start facts at =
    let flush = c.args.self in
    let holds = Holds flush.nodes flush.node in
    let old = g.D.Disk.areas c.args.journal.now.disk in
    let new = g.D.Disk.areas c.sync.new.journal.disk in
    let held = set_holds holds flush start facts old at in
    (held, same_either holds flush start facts old new flush.group.facts held (c.in-Err.ensures.err tells), tt, tt)
