use Rattle.std.proofs.Common.{inl, inr, refl, List, Ok, Err, sym, subst, ◌∙◌}
use Rattle.rr_types.specs.declared.fact.Fact.{Fact}
use Rattle.rr_journal.specs.declared.journal.Journal.{Journal}
use Rattle.rr_journal.specs.OpeningStates.{OpeningState}
use Rattle.rr_journal.specs.declared.opening.Progress.{Progress}
use Rattle.rr_journal.specs.declared.opening.Progress.TheVariants.{More, Done}
use Rattle.rr_journal.specs.Held.{Holds}
use Rattle.rr_journal.specs.Fronts.{KnowsOther}
use Rattle.rr_journal.specs.OpeningSteps.{Steps, MaySnap}
use Rattle.rr_journal.specs.OpeningTable.{OpensWith, ComesToAny, IsKept, disk_after}
use Rattle.rr_core.specs.Recoveries.{end_of}
use Rattle.rr_core.proofs.KnowingLaws.{so_many}
use Rattle.rr_core.proofs.OpeningLaws.{moved, ended, last_whose, last_stands, stands_so, numbered_at}
use Rattle.rr_core.proofs.opening.Opening.step.Goals as goal

pub invariant_of-result : goal.invariant_of-result
invariant_of-result g c =
    let o : OpeningState g.row.D.Denot = c.self.inside.journal in
    let gave = c.in-Ok-More.ensures in
    let exact = subst (λ (x : Progress g.row.D.Denot). Steps {D = g.row.D.Denot} g.D.Disk.read_gives g.D.Disk.write_gives g.D.Disk.sync_gives o (Ok x)) c.in-Ok-More.field-0-is gave.exact in (
      exact.3 ∙ c.self.invariant.0,
      exact.4 ∙ c.self.invariant.1,
      c.self.invariant.2,
      c.self.invariant.3,
      λ now. (let tells : g.D.Disk.tells o.disk = c.self.invariant.3 c.in-Ok-More.journal.disk o.disk now in
          record {
            stands = subst (λ (x : Progress g.row.D.Denot). ComesToAny {D = g.row.D.Denot} g.D.Disk.areas x) c.in-Ok-More.field-0-is (gave.rests tells (c.self.invariant.4 tells).stands);
            fronts = subst (λ (x : Progress g.row.D.Denot). KnowsOther {D = g.row.D.Denot} g.D.Disk.areas x) c.in-Ok-More.field-0-is (gave.fronts tells (c.self.invariant.4 tells).fronts);
          }),
    )

pub returns-in-Ok-More-clause-exact : goal.returns-in-Ok-More-clause-exact
returns-in-Ok-More-clause-exact g c =
    inl (moved {D = g.row.D.Denot} (λ (o : OpeningState g.row.D.Denot) (x : Progress g.row.D.Denot). Steps {D = g.row.D.Denot} g.D.Disk.read_gives g.D.Disk.write_gives g.D.Disk.sync_gives o (Ok x)) c.self.inside.journal c.args.self c.in-Ok-More.field-0 (More c.in-Ok-More.journal)
    c.self.view_is c.in-Ok-More.field-0-is c.in-Ok-More.ensures.exact)

pub returns-in-Ok-More-clause-kept : goal.returns-in-Ok-More-clause-kept
returns-in-Ok-More-clause-kept g c =
    moved {D = g.row.D.Denot}
    (λ (o : OpeningState g.row.D.Denot) (x : Progress g.row.D.Denot). g.D.Disk.tells o.disk → (facts : List Fact) → OpensWith o.nodes o.node facts o.phase (g.D.Disk.areas o.disk) → IsKept (Holds o.nodes o.node) facts (g.D.Disk.areas o.disk) (g.D.Disk.areas (disk_after {D = g.row.D.Denot} (Ok x))))
    c.self.inside.journal c.args.self c.in-Ok-More.field-0 (More c.in-Ok-More.journal) c.self.view_is c.in-Ok-More.field-0-is c.in-Ok-More.ensures.kept

pub returns-in-Ok-clause-exact : goal.returns-in-Ok-clause-exact
returns-in-Ok-clause-exact g c =
    let made = c.in-Ok.ensures.ok in
    let exact = subst (λ (x : Progress g.row.D.Denot). Steps {D = g.row.D.Denot} g.D.Disk.read_gives g.D.Disk.write_gives g.D.Disk.sync_gives c.self.inside.journal (Ok x)) c.in-Ok-Done.field-0-is c.in-Ok-Done.ensures.exact in
    let whose = last_whose {D = g.row.D.Denot} g.D.Disk.read_gives g.D.Disk.write_gives g.D.Disk.sync_gives g.D.Disk.areas c.self.inside.journal c.in-Ok-Done.journal c.in-Ok-Done.opened exact in
    inl (moved {D = g.row.D.Denot} (λ (o : OpeningState g.row.D.Denot) (x : Progress g.row.D.Denot). Steps {D = g.row.D.Denot} g.D.Disk.read_gives g.D.Disk.write_gives g.D.Disk.sync_gives o (Ok x)) c.self.inside.journal c.args.self
    (Done c.in-Ok-Done.journal c.in-Ok-Done.opened) (Done c.in-Ok.slots (end_of {D = g.row.D.Denot} c.in-Ok.core c.in-Ok.slots))
    c.self.view_is (ended {D = g.row.D.Denot} c.in-Ok-Done.journal c.in-Ok.slots c.in-Ok-Done.opened c.in-Ok.core made.2 made.1 whose.2 whose.3 whose.4) exact)

pub returns-in-Ok-clause-rests : goal.returns-in-Ok-clause-rests
returns-in-Ok-clause-rests g c told =
    let o : OpeningState g.row.D.Denot = c.self.inside.journal in
    let gave = c.in-Ok-Done.ensures in
    let made = c.in-Ok.ensures.ok in
    let tells : g.D.Disk.tells o.disk = c.self.invariant.3 c.args.self.disk o.disk told in
    stands_so {D = g.row.D.Denot} g.D.Disk.areas c.in-Ok-Done.journal c.in-Ok.slots c.in-Ok-Done.opened.promise c.in-Ok.core made.2 made.1
    (last_stands {D = g.row.D.Denot} g.D.Disk.read_gives g.D.Disk.write_gives g.D.Disk.sync_gives g.D.Disk.areas o c.in-Ok-Done.field-0 c.in-Ok-Done.journal c.in-Ok-Done.opened
    c.in-Ok-Done.field-0-is gave.exact (gave.rests tells (c.self.invariant.4 tells).stands))

pub returns-in-Ok-More-clause-comes : goal.returns-in-Ok-More-clause-comes
returns-in-Ok-More-clause-comes g c told =
    let o : OpeningState g.row.D.Denot = c.self.inside.journal in
    let tells : g.D.Disk.tells o.disk = c.self.invariant.3 c.args.self.disk o.disk told in
    subst (λ (x : Progress g.row.D.Denot). ComesToAny {D = g.row.D.Denot} g.D.Disk.areas x) c.in-Ok-More.field-0-is (c.in-Ok-More.ensures.rests tells (c.self.invariant.4 tells).stands)

pub returns-in-Ok-clause-comes : goal.returns-in-Ok-clause-comes
returns-in-Ok-clause-comes g c told =
    let o : OpeningState g.row.D.Denot = c.self.inside.journal in
    let gave = c.in-Ok-Done.ensures in
    let made = c.in-Ok.ensures.ok in
    let tells : g.D.Disk.tells o.disk = c.self.invariant.3 c.args.self.disk o.disk told in
    let exact = subst (λ (x : Progress g.row.D.Denot). Steps {D = g.row.D.Denot} g.D.Disk.read_gives g.D.Disk.write_gives g.D.Disk.sync_gives o (Ok x)) c.in-Ok-Done.field-0-is gave.exact in
    let whose = last_whose {D = g.row.D.Denot} g.D.Disk.read_gives g.D.Disk.write_gives g.D.Disk.sync_gives g.D.Disk.areas o c.in-Ok-Done.journal c.in-Ok-Done.opened exact in
    subst (λ (x : Progress g.row.D.Denot). ComesToAny {D = g.row.D.Denot} g.D.Disk.areas x)
    (c.in-Ok-Done.field-0-is ∙ ended {D = g.row.D.Denot} c.in-Ok-Done.journal c.in-Ok.slots c.in-Ok-Done.opened c.in-Ok.core made.2 made.1 whose.2 whose.3 whose.4)
    (gave.rests tells (c.self.invariant.4 tells).stands)

pub returns-in-Ok-clause-number : goal.returns-in-Ok-clause-number
returns-in-Ok-clause-number g c told =
    let o : OpeningState g.row.D.Denot = c.self.inside.journal in
    let gave = c.in-Ok-Done.ensures in
    let made = c.in-Ok.ensures.ok in
    let tells : g.D.Disk.tells o.disk = c.self.invariant.3 c.args.self.disk o.disk told in
    let exact = subst (λ (x : Progress g.row.D.Denot). Steps {D = g.row.D.Denot} g.D.Disk.read_gives g.D.Disk.write_gives g.D.Disk.sync_gives o (Ok x)) c.in-Ok-Done.field-0-is gave.exact in
    let whose = last_whose {D = g.row.D.Denot} g.D.Disk.read_gives g.D.Disk.write_gives g.D.Disk.sync_gives g.D.Disk.areas o c.in-Ok-Done.journal c.in-Ok-Done.opened exact in
    let stands = last_stands {D = g.row.D.Denot} g.D.Disk.read_gives g.D.Disk.write_gives g.D.Disk.sync_gives g.D.Disk.areas o c.in-Ok-Done.field-0 c.in-Ok-Done.journal c.in-Ok-Done.opened
    c.in-Ok-Done.field-0-is gave.exact (gave.rests tells (c.self.invariant.4 tells).stands) in
    numbered_at {D = g.row.D.Denot} g.D.Disk.areas c.in-Ok-Done.journal c.in-Ok.slots c.in-Ok-Done.opened c.in-Ok.core made.0 made.2
    (so_many {D = g.row.D.Denot} g.D.Disk.areas c.in-Ok-Done.journal c.in-Ok-Done.opened whose.2 c.in-Ok-Done.journal.nodes c.in-Ok-Done.journal.node refl refl stands)

pub returns-in-Ok-clause-kept : goal.returns-in-Ok-clause-kept
returns-in-Ok-clause-kept g c =
    let made = c.in-Ok.ensures.ok in
    let kept = moved {D = g.row.D.Denot}
    (λ (o : OpeningState g.row.D.Denot) (x : Progress g.row.D.Denot). g.D.Disk.tells o.disk → (facts : List Fact) → OpensWith o.nodes o.node facts o.phase (g.D.Disk.areas o.disk) → IsKept (Holds o.nodes o.node) facts (g.D.Disk.areas o.disk) (g.D.Disk.areas (disk_after {D = g.row.D.Denot} (Ok x))))
    c.self.inside.journal c.args.self c.in-Ok-Done.field-0 (Done c.in-Ok-Done.journal c.in-Ok-Done.opened) c.self.view_is c.in-Ok-Done.field-0-is c.in-Ok-Done.ensures.kept in
    λ tells facts opens. subst (λ (j : Journal g.row.D.Denot). IsKept (Holds c.args.self.nodes c.args.self.node) facts (g.D.Disk.areas c.args.self.disk) (g.D.Disk.areas j.disk)) (sym made.2) (kept tells facts opens)

pub returns-in-Err-start_core-clause-exact : goal.returns-in-Err-start_core-clause-exact
returns-in-Err-start_core-clause-exact g c =
    let made = c.in-Err-start_core.ensures.err in
    let steps = moved {D = g.row.D.Denot} (λ (o : OpeningState g.row.D.Denot) (x : Progress g.row.D.Denot). Steps {D = g.row.D.Denot} g.D.Disk.read_gives g.D.Disk.write_gives g.D.Disk.sync_gives o (Ok x)) c.self.inside.journal c.args.self
    c.in-Ok-Done.field-0 (Done c.in-Ok-Done.journal c.in-Ok-Done.opened) c.self.view_is c.in-Ok-Done.field-0-is c.in-Ok-Done.ensures.exact in
    inr (c.in-Ok-Done.journal, c.in-Ok-Done.opened, steps, λ i. Err (made.0 i, made.1 i))

pub returns-in-Err-clause-exact : goal.returns-in-Err-clause-exact
returns-in-Err-clause-exact g c =
    inl (subst (λ (o : OpeningState g.row.D.Denot). Steps {D = g.row.D.Denot} g.D.Disk.read_gives g.D.Disk.write_gives g.D.Disk.sync_gives o (Err c.in-Err.refused)) c.self.view_is c.in-Err.ensures.exact)

pub step-requires : goal.step-requires
step-requires g c = rw (c.self.invariant.0, c.self.invariant.1) c.self.invariant.2

pub returns-in-Ok-clause-snapshot : goal.returns-in-Ok-clause-snapshot
returns-in-Ok-clause-snapshot g c =
    let made = c.in-Ok.ensures.ok in
    let exact = subst (λ (x : Progress g.row.D.Denot). Steps {D = g.row.D.Denot} g.D.Disk.read_gives g.D.Disk.write_gives g.D.Disk.sync_gives c.self.inside.journal (Ok x)) c.in-Ok-Done.field-0-is c.in-Ok-Done.ensures.exact in
    let whose = last_whose {D = g.row.D.Denot} g.D.Disk.read_gives g.D.Disk.write_gives g.D.Disk.sync_gives g.D.Disk.areas c.self.inside.journal c.in-Ok-Done.journal c.in-Ok-Done.opened exact in
    subst (λ (x : Progress g.row.D.Denot). MaySnap {D = g.row.D.Denot} x) (c.in-Ok-Done.field-0-is ∙ ended {D = g.row.D.Denot} c.in-Ok-Done.journal c.in-Ok.slots c.in-Ok-Done.opened c.in-Ok.core made.2 made.1 whose.2 whose.3 whose.4) c.in-Ok-Done.ensures.snapshot
