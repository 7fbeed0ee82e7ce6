use Rattle.std.proofs.Common.{◌++◌, ℕ, ap, subst, sym}
use Rattle.rr_journal.specs.Held.{Holds}
use Rattle.rr_journal.specs.Flushes.{Flush}
use Rattle.rr_journal.specs.Moments.{IsAt, EachHolds, EachHoldsEither, body_due, with_group}
use Rattle.rr_journal.specs.Journals.{IsOver}
use Rattle.rr_journal.specs.declared.journal.Journal.{Journal}
use Rattle.rr_turn.proofs.flusher.carry.Goals as goal

pub returns-in-Ok-flush-clause-table : goal.returns-in-Ok-flush-clause-table
returns-in-Ok-flush-clause-table g c t start facts areas over fit serial =
    let ok = c.in-Ok.ensures.ok in
    let begun = c.in-Ok.ensures.table start facts areas over fit serial in
    let t0 = subst (λ (j : Journal g.row.D.Denot). g.D.Disk.tells j.disk) (sym ok.3) t in
    let dd = g.D.Disk.areas c.begin.new.self.disk in
    let at = subst (λ (n : ℕ). IsAt body_due (Holds n c.in-Ok.job.node) c.in-Ok.job start facts dd) (sym (ap (λ (j : Flush). j.nodes) ok.4))
    (subst (λ (p : ℕ). IsAt body_due (Holds c.args.journal.now.nodes p) c.in-Ok.job start facts dd) (sym (ap (λ (j : Flush). j.node) ok.4)) begun.0) in
    let done = c.in-Ok-flush.ensures.table t0 start facts at in
    let d = g.D.Disk.areas c.flush.new.journal.disk in (
      (
        subst (λ (j : Flush). EachHolds (Holds j.nodes j.node) d (facts ++ j.group.facts)) ok.4 done.0,
        (
          with_group c.in-Ok.job start,
          done.1,
          subst (λ (j : Journal g.row.D.Denot). IsOver j (with_group c.in-Ok.job start) (facts ++ c.args.group.facts)) (sym c.in-Ok-flush.ensures.done.2)
              (record { holds = begun.1.holds; active = begun.1.active }),
        ),
      ),
      tt,
    )

pub returns-in-Err-flush-clause-table : goal.returns-in-Err-flush-clause-table
returns-in-Err-flush-clause-table g c t start facts areas over fit serial =
    let ok = c.in-Ok.ensures.ok in
    let begun = c.in-Ok.ensures.table start facts areas over fit serial in
    let t0 = subst (λ (j : Journal g.row.D.Denot). g.D.Disk.tells j.disk) (sym ok.3) t in
    let dd = g.D.Disk.areas c.begin.new.self.disk in
    let at = subst (λ (n : ℕ). IsAt body_due (Holds n c.in-Ok.job.node) c.in-Ok.job start facts dd) (sym (ap (λ (j : Flush). j.nodes) ok.4))
    (subst (λ (p : ℕ). IsAt body_due (Holds c.args.journal.now.nodes p) c.in-Ok.job start facts dd) (sym (ap (λ (j : Flush). j.node) ok.4)) begun.0) in
    let done = c.in-Err-flush.ensures.table t0 start facts at in
    let d = g.D.Disk.areas c.flush.new.journal.disk in
    (tt, subst (λ (j : Flush). EachHoldsEither (Holds j.nodes j.node) d facts j.group.facts) ok.4 done.2)
