use Rattle.std.proofs.Common.{sym, subst}
use Rattle.rr_journal.specs.declared.journal.Journal.{Journal}
use Rattle.rr_journal.specs.declared.opened.Opened.{Opened}
use Rattle.rr_journal.specs.CrashedDisks.{IsOpenWithOneOf, AddsSameAlone}
use Rattle.rr_journal.specs.Held.{Holds}
use Rattle.rr_journal.specs.OpeningTable.{IsKept}
use Rattle.rr_journal.specs.OpenDisks.{IsOpenWith, IsReady}
use Rattle.rr_core.proofs.KnowingLaws.{rests_so, so_many}
use Rattle.rr_core.proofs.OpeningLaws.{found_end, numbered, stands_so}
use Rattle.rr_core.proofs.recovery.recover.Goals as goal

pub returns-in-Ok-start_core-clause-rests : goal.returns-in-Ok-start_core-clause-rests
returns-in-Ok-start_core-clause-rests g c tells =
    let gave = c.in-Ok.ensures in
    let made = c.in-Ok-start_core.ensures.ok in
    let short = c.measure.ensures tells in
    stands_so {D = g.row.D.Denot} g.D.Disk.areas c.in-Ok.journal c.in-Ok-start_core.slots c.in-Ok.opened.promise c.in-Ok-start_core.core made.2 made.1
    (rests_so {D = g.row.D.Denot} g.D.Disk.areas c.in-Ok.journal c.in-Ok.opened gave.journal.2 (gave.rests tells short.0 short.1))

pub returns-in-Ok-start_core-clause-number : goal.returns-in-Ok-start_core-clause-number
returns-in-Ok-start_core-clause-number g c tells =
    let gave = c.in-Ok.ensures in
    let made = c.in-Ok-start_core.ensures.ok in
    let short = c.measure.ensures tells in
    let many = so_many {D = g.row.D.Denot} g.D.Disk.areas c.in-Ok.journal c.in-Ok.opened gave.journal.2 c.args.nodes c.args.node gave.journal.0 gave.journal.1
    (rests_so {D = g.row.D.Denot} g.D.Disk.areas c.in-Ok.journal c.in-Ok.opened gave.journal.2 (gave.rests tells short.0 short.1)) in
    numbered {D = g.row.D.Denot} g.D.Disk.areas c.args.nodes c.args.node c.in-Ok.journal c.in-Ok-start_core.slots c.in-Ok.opened c.in-Ok-start_core.core made.0 made.2 many

pub returns-in-Ok-start_core-clause-images : goal.returns-in-Ok-start_core-clause-images
returns-in-Ok-start_core-clause-images g c tells stands =
    let short = c.measure.ensures tells in
    subst (λ (j : Journal g.row.D.Denot). AddsSameAlone c.args.nodes c.args.node (g.D.Disk.areas c.args.disk) (g.D.Disk.areas j.disk)) (sym c.in-Ok-start_core.ensures.ok.2) (c.in-Ok.ensures.images tells short.0 short.1 stands)

pub returns-in-Ok-start_core-clause-some : goal.returns-in-Ok-start_core-clause-some
returns-in-Ok-start_core-clause-some g c tells stands some =
    let gave = c.in-Ok.ensures in
    let made = c.in-Ok-start_core.ensures.ok in
    let short = c.measure.ensures tells in (
      subst (λ (r : Journal g.row.D.Denot × Opened). IsOpenWithOneOf {D = g.row.D.Denot} g.D.Disk.areas (Holds c.args.nodes c.args.node) (g.D.Disk.areas c.args.disk) r)
          (found_end {D = g.row.D.Denot} c.args.nodes c.args.node c.in-Ok.journal c.in-Ok-start_core.slots c.in-Ok.opened c.in-Ok-start_core.core made.2 made.1 gave.journal)
          (gave.some tells short.0 short.1 stands some).0,
      tt,
    )

pub returns-in-Ok-start_core-clause-table : goal.returns-in-Ok-start_core-clause-table
returns-in-Ok-start_core-clause-table g c tells facts holds =
    let gave = c.in-Ok.ensures in
    let made = c.in-Ok-start_core.ensures.ok in
    let short = c.measure.ensures tells in
    subst (λ (r : Journal g.row.D.Denot × Opened). IsOpenWith {D = g.row.D.Denot} g.D.Disk.areas facts r)
    (found_end {D = g.row.D.Denot} c.args.nodes c.args.node c.in-Ok.journal c.in-Ok-start_core.slots c.in-Ok.opened c.in-Ok-start_core.core made.2 made.1 gave.journal)
    (gave.table tells facts short.0 short.1 holds)

pub returns-in-Ok-start_core-clause-kept : goal.returns-in-Ok-start_core-clause-kept
returns-in-Ok-start_core-clause-kept g c tells facts holds =
    let short = c.measure.ensures tells in
    subst (λ (j : Journal g.row.D.Denot). IsKept (Holds c.args.nodes c.args.node) facts (g.D.Disk.areas c.args.disk) (g.D.Disk.areas j.disk)) (sym c.in-Ok-start_core.ensures.ok.2) (c.in-Ok.ensures.kept tells facts short.0 short.1 holds)

pub returns-in-Err-start_core-clause-kept : goal.returns-in-Err-start_core-clause-kept
returns-in-Err-start_core-clause-kept g c tells facts holds =
    let short = c.measure.ensures tells in
    subst (λ (d : g.row.D.Denot). IsKept (Holds c.args.nodes c.args.node) facts (g.D.Disk.areas c.args.disk) (g.D.Disk.areas d)) (sym c.in-Err-start_core.ensures.err.1) (c.in-Ok.ensures.kept tells facts short.0 short.1 holds)

pub returns-in-Err-start_core-clause-images : goal.returns-in-Err-start_core-clause-images
returns-in-Err-start_core-clause-images g c tells stands =
    let short = c.measure.ensures tells in
    subst (λ (d : g.row.D.Denot). AddsSameAlone c.args.nodes c.args.node (g.D.Disk.areas c.args.disk) (g.D.Disk.areas d)) (sym c.in-Err-start_core.ensures.err.1) (c.in-Ok.ensures.images tells short.0 short.1 stands)

pub returns-in-Err-clause-images : goal.returns-in-Err-clause-images
returns-in-Err-clause-images g c tells = let short = c.measure.ensures tells in c.in-Err.ensures.images tells short.0 short.1

pub returns-in-Err-clause-some : goal.returns-in-Err-clause-some
returns-in-Err-clause-some g c tells = let short = c.measure.ensures tells in c.in-Err.ensures.some tells short.0 short.1

pub returns-in-Err-clause-undamaged : goal.returns-in-Err-clause-undamaged
returns-in-Err-clause-undamaged g c tells facts = let short = c.measure.ensures tells in c.in-Err.ensures.undamaged tells facts short.0 short.1

pub returns-in-Err-clause-kept : goal.returns-in-Err-clause-kept
returns-in-Err-clause-kept g c tells facts = let short = c.measure.ensures tells in c.in-Err.ensures.kept tells facts short.0 short.1

pub returns-in-Ok-start_core-clause-ready : goal.returns-in-Ok-start_core-clause-ready
returns-in-Ok-start_core-clause-ready g c =
    let gave = c.in-Ok.ensures in
    let made = c.in-Ok-start_core.ensures.ok in
    subst (λ (r : Journal g.row.D.Denot × Opened). IsReady {D = g.row.D.Denot} c.args.nodes c.args.node r)
    (found_end {D = g.row.D.Denot} c.args.nodes c.args.node c.in-Ok.journal c.in-Ok-start_core.slots c.in-Ok.opened c.in-Ok-start_core.core made.2 made.1 gave.journal)
    gave.journal
