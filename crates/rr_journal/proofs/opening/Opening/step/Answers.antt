use Rattle.std.proofs.Common.{sym, subst, Ok, Err}
use Rattle.rr_journal.specs.Held.{Holds}
use Rattle.rr_journal.specs.declared.opening.Progress.{Progress}
use Rattle.rr_journal.specs.declared.opening.Stepped.{Stepped}
use Rattle.rr_journal.specs.OpeningSteps.{Steps}
use Rattle.rr_journal.specs.OpeningTable.{IsKept}
use Rattle.rr_journal.specs.StepsInPlace.{as_progress}
use Rattle.rr_journal.proofs.opening.Opening.step.Goals as goal

pub close-journal-requires : goal.close-journal-requires
close-journal-requires g c = c.in-Ok-Ended.ensures.ended.1 c.in-Ok-Ended.field-0-is

pub returns-in-Err-clause-exact : goal.returns-in-Err-clause-exact
returns-in-Err-clause-exact g c =
    subst (λ (d : g.row.D.Denot). Steps {D = g.row.D.Denot} g.D.Disk.read_gives g.D.Disk.write_gives g.D.Disk.sync_gives c.args.self (Err (c.in-Err.refusal, d))) (sym c.into_disk.ensures) c.in-Err.ensures.exact

pub returns-in-Err-clause-kept : goal.returns-in-Err-clause-kept
returns-in-Err-clause-kept g c tells facts opens =
    subst (λ (d : g.row.D.Denot). IsKept (Holds c.args.self.nodes c.args.self.node) facts (g.D.Disk.areas c.args.self.disk) (g.D.Disk.areas d)) (sym c.into_disk.ensures) (c.in-Err.ensures.kept tells facts opens)

pub returns-in-Ok-Ended-clause-exact : goal.returns-in-Ok-Ended-clause-exact
returns-in-Ok-Ended-clause-exact g c =
    let exact = subst (λ (x : Stepped). Steps {D = g.row.D.Denot} g.D.Disk.read_gives g.D.Disk.write_gives g.D.Disk.sync_gives c.args.self (as_progress c.step_on.new.self (Ok x))) c.in-Ok-Ended.field-0-is c.in-Ok-Ended.ensures.exact in
    subst (λ (x : Progress g.row.D.Denot). Steps {D = g.row.D.Denot} g.D.Disk.read_gives g.D.Disk.write_gives g.D.Disk.sync_gives c.args.self (Ok x)) c.close-journal.ensures exact
