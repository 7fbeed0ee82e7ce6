use Rattle.std.proofs.Common.{◌++◌, ℕ, ap, subst, sym}
use Rattle.rr_journal.specs.Held.{Holds}
use Rattle.rr_journal.specs.Flushes.{Flush}
use Rattle.rr_journal.specs.Moments.{IsAt, body_due, with_group}
use Rattle.rr_journal.specs.Journals.{IsOver}
use Rattle.rr_journal.specs.declared.journal.Journal.{Journal}
use Rattle.rr_folders.proofs.renewal.carry.Goals as goal

pub returns-in-Ok-flush-clause-table : goal.returns-in-Ok-flush-clause-table
returns-in-Ok-flush-clause-table g c t start facts areas over fit serial =
    let ok = c.in-Ok.ensures.ok in
    let begun = c.in-Ok.ensures.table start facts areas over fit serial in
    let t0 = subst (λ (j : Journal g.row.D.Denot). g.D.Disk.tells j.disk) (sym ok.3) t in
    let dd = g.D.Disk.areas c.begin.new.self.disk in
    let at = subst (λ (n : ℕ). IsAt body_due (Holds n c.in-Ok.job.node) c.in-Ok.job start facts dd) (sym (ap (λ (j : Flush). j.nodes) ok.4))
    (subst (λ (p : ℕ). IsAt body_due (Holds c.args.journal.now.nodes p) c.in-Ok.job start facts dd) (sym (ap (λ (j : Flush). j.node) ok.4)) begun.0) in (
      with_group c.in-Ok.job start,
      c.in-Ok-flush.ensures.table t0 start facts at,
      subst (λ (j : Journal g.row.D.Denot). IsOver j (with_group c.in-Ok.job start) (facts ++ c.args.group.facts)) (sym c.in-Ok-flush.ensures.done)
          (record { holds = begun.1.holds; active = begun.1.active }),
    )
