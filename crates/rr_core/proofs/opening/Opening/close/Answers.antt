use Rattle.std.proofs.Common.{Some, sym, ap, subst, ◌∙◌}
use Rattle.std.specs.Prelude.{IsSome}
use Rattle.rr_model.specs.NodeStep.{started}
use Rattle.rr_journal.specs.declared.journal.Journal.{Journal}
use Rattle.rr_journal.specs.declared.opened.Opened.{Opened}
use Rattle.rr_journal.specs.OpeningStates.{OpeningState}
use Rattle.rr_core.proofs.KnowingLaws.{journal_at_end, opened_at_end, disk_at_end}
use Rattle.rr_core.proofs.opening.Opening.close.Goals as goal

pub close-journal-requires : goal.close-journal-requires
close-journal-requires g c = subst (λ (o : OpeningState g.row.D.Denot). IsSome o.end) (sym c.self.view_is) c.requires

pub returns-in-Ok-clause-ok : goal.returns-in-Ok-clause-ok
returns-in-Ok-clause-ok g c = λ end is.
    let made = c.in-Ok.ensures.ok in
    let opened = opened_at_end {D = g.row.D.Denot} c.self.inside.journal c.args.self end _ _ c.self.view_is is c.close-journal.ensures in (
      made.0 ∙ ap (λ (x : Opened). started x.nodes x.node x.promise x.next) opened,
      made.1 ∙ ap (λ (x : Opened). x.promise) opened,
      made.2 ∙ journal_at_end {D = g.row.D.Denot} c.self.inside.journal c.args.self end _ _ c.self.view_is is c.close-journal.ensures,
    )

pub returns-in-Err-clause-err : goal.returns-in-Err-clause-err
returns-in-Err-clause-err g c =
    let made = c.in-Err.ensures.err in
    (made.0, made.1 ∙ disk_at_end {D = g.row.D.Denot} c.self.inside.journal c.args.self _ _ c.self.view_is c.requires c.close-journal.ensures)
