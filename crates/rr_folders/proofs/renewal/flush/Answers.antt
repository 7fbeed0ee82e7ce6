use Rattle.std.proofs.Common.{◌≡◌, ◌∙◌, OnOk, subst, sym}
use Rattle.rr_journal.specs.Held.{Holds}
use Rattle.rr_journal.specs.Flushes.{Flush}
use Rattle.rr_journal.specs.Moments.{IsAt, body_out, body_safe, gate_set, group_safe}
use Rattle.rr_folders.proofs.renewal.flush.Goals as goal

pub returns-clause-table : goal.returns-clause-table
returns-clause-table g c t start facts at =
    let d1 = g.D.Disk.areas c.step.new.journal.disk in
    let d2 = g.D.Disk.areas c.step-2.new.journal.disk in
    let d3 = g.D.Disk.areas c.step-3.new.journal.disk in
    let d4 = g.D.Disk.areas c.step-4.new.journal.disk in
    let e1 : c.in_ok-out.out ≡ c.args.job = c.in_ok-out.ensures.done.0 in
    let e2 : c.in_ok-safe.safe ≡ c.in_ok-out.out = c.in_ok-safe.ensures.done.0 in
    let e3 : c.in_ok-set.set ≡ c.in_ok-safe.safe = c.in_ok-set.ensures.done.0 in
    let out = subst (λ (j : Flush). IsAt body_out (Holds j.nodes j.node) j start facts d1) (sym e1) (c.in_ok-out.ensures.table t start facts at).2 in
    let t1 = c.in_ok-out.ensures.tells t in
    let safe = subst (λ (j : Flush). IsAt body_safe (Holds j.nodes j.node) j start facts d2) (sym e2) (c.in_ok-safe.ensures.table t1 start facts out).2 in
    let t2 = c.in_ok-safe.ensures.tells t1 in
    let set = subst (λ (j : Flush). IsAt gate_set (Holds j.nodes j.node) j start facts d3) (sym e3) (c.in_ok-set.ensures.table t2 start facts safe).2 in
    let t3 = c.in_ok-set.ensures.tells t2 in
    let last = c.step-4.ensures.table t3 start facts set in
    subst (λ (j : Flush). OnOk c.step-4.result (d4 ≡ group_safe j start)) (e3 ∙ (e2 ∙ e1)) last.3
