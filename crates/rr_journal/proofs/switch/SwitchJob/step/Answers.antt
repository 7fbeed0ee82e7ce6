use Rattle.std.proofs.Common.{ap, subst, ◌∙◌}
use Rattle.rr_journal.specs.declared.journal.Journal.{Journal}
use Rattle.rr_journal.specs.SwitchTable.{GoesOn}
use Rattle.rr_journal.proofs.SwitchLaws.{goes_from, held_before, held_refused, steps}
use Rattle.rr_journal.proofs.switch.SwitchJob.step.Goals as goal

pub returns-in-Ok-clause-table : goal.returns-in-Ok-clause-table
returns-in-Ok-clause-table g c tells facts switches =
    let old : Journal g.row.D.Denot = c.args.journal.now in
    let new : Journal g.row.D.Denot = c.go_on.new.journal in
    let went = goes_from {D = g.row.D.Denot} c.args.self c.args.journal.now c.make.new.journal.disk c.go_on.result c.go_on.new.journal
    (subst (λ (m : Journal g.row.D.Denot). GoesOn {D = g.row.D.Denot} c.args.self m c.go_on.result c.go_on.new.journal) c.in-Ok.ensures.done.1 c.go_on.ensures.goes) in
    let on = steps {D = g.row.D.Denot} g.D.Disk.areas old new c.args.self facts switches c.go_on.result went (ap g.D.Disk.areas c.go_on.ensures.disk ∙ c.in-Ok.ensures.ok tells) in
    (held_before {D = g.row.D.Denot} g.D.Disk.areas old new c.args.self facts switches, on.0, on.1)

pub returns-in-Err-clause-table : goal.returns-in-Err-clause-table
returns-in-Err-clause-table g c tells facts switches =
    let old : Journal g.row.D.Denot = c.args.journal.now in
    let new : Journal g.row.D.Denot = c.make.new.journal in (
      held_before {D = g.row.D.Denot} g.D.Disk.areas old new c.args.self facts switches,
      held_refused {D = g.row.D.Denot} g.D.Disk.areas old new c.args.self facts switches (g.D.Disk.areas c.make.new.journal.disk) (c.in-Err.ensures.err tells),
      tt,
    )
