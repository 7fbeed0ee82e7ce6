use Rattle.std.proofs.Common.{◌≡◌, ◌++◌, ◌∙◌, OnOk, OnErr, subst, sym}
use Rattle.std.proofs.lemmas.Result.{err_from_is_err_and}
use Rattle.rr_journal.specs.Held.{Holds}
use Rattle.rr_journal.specs.Flushes.{Flush}
use Rattle.rr_journal.specs.Moments.{IsAt, EachHolds, EachHoldsEither, body_out, body_safe, gate_set, group_safe}
use Rattle.rr_turn.proofs.Flushes.{either}
use Rattle.rr_turn.proofs.flusher.flush.Goals as goal

pub returns-in_err-out-clause-table : goal.returns-in_err-out-clause-table
returns-in_err-out-clause-table g c t start facts at =
    let p = err_from_is_err_and c.from_residual.result c.from_residual.ensures.1 in
    rw p.1 (tt, tt, either (Holds c.args.job.nodes c.args.job.node) _ facts c.args.job.group.facts (c.in_err-out.ensures.table t start facts at).1)

pub returns-in_err-safe-clause-table : goal.returns-in_err-safe-clause-table
returns-in_err-safe-clause-table g c t start facts at =
    let d1 = g.D.Disk.areas c.step.new.journal.disk in
    let e1 : c.in_ok-out.out ≡ c.args.job = c.in_ok-out.ensures.done.0 in
    let out = subst (λ (j : Flush). IsAt body_out (Holds j.nodes j.node) j start facts d1) (sym e1) (c.in_ok-out.ensures.table t start facts at).2 in
    let t1 = c.in_ok-out.ensures.tells t in
    let each = (c.in_err-safe.ensures.table t1 start facts out).1 in
    let d2 = g.D.Disk.areas c.step-2.new.journal.disk in
    let p = err_from_is_err_and c.from_residual-in_err-safe.result c.from_residual-in_err-safe.ensures.1 in
    rw p.1 (tt, tt, either (Holds c.args.job.nodes c.args.job.node) d2 facts c.args.job.group.facts (subst (λ (j : Flush). EachHolds (Holds j.nodes j.node) d2 facts) e1 each))

pub returns-in_err-set-clause-table : goal.returns-in_err-set-clause-table
returns-in_err-set-clause-table g c t start facts at =
    let d1 = g.D.Disk.areas c.step.new.journal.disk in
    let d2 = g.D.Disk.areas c.step-2.new.journal.disk in
    let d3 = g.D.Disk.areas c.step-3.new.journal.disk in
    let e1 : c.in_ok-out.out ≡ c.args.job = c.in_ok-out.ensures.done.0 in
    let e2 : c.in_ok-safe.safe ≡ c.in_ok-out.out = c.in_ok-safe.ensures.done.0 in
    let out = subst (λ (j : Flush). IsAt body_out (Holds j.nodes j.node) j start facts d1) (sym e1) (c.in_ok-out.ensures.table t start facts at).2 in
    let t1 = c.in_ok-out.ensures.tells t in
    let safe = subst (λ (j : Flush). IsAt body_safe (Holds j.nodes j.node) j start facts d2) (sym e2) (c.in_ok-safe.ensures.table t1 start facts out).2 in
    let t2 = c.in_ok-safe.ensures.tells t1 in
    let both = (c.in_err-set.ensures.table t2 start facts safe).1 in
    let p = err_from_is_err_and c.from_residual-in_err-set.result c.from_residual-in_err-set.ensures.1 in
    rw p.1 (tt, tt, subst (λ (j : Flush). EachHoldsEither (Holds j.nodes j.node) d3 facts j.group.facts) (e2 ∙ e1) both)

pub returns-clause-table : goal.returns-clause-table
returns-clause-table g c t start facts at =
    let d1 = g.D.Disk.areas c.step.new.journal.disk in
    let d2 = g.D.Disk.areas c.step-2.new.journal.disk in
    let d3 = g.D.Disk.areas c.step-3.new.journal.disk in
    let d4 = g.D.Disk.areas c.step-4.new.journal.disk in
    let e1 : c.in_ok-out.out ≡ c.args.job = c.in_ok-out.ensures.done.0 in
    let e2 : c.in_ok-safe.safe ≡ c.in_ok-out.out = c.in_ok-safe.ensures.done.0 in
    let e3 : c.in_ok-set.set ≡ c.in_ok-safe.safe = c.in_ok-set.ensures.done.0 in
    let out = subst (λ (j : Flush). IsAt body_out (Holds j.nodes j.node) j start facts d1) (sym e1) (c.in_ok-out.ensures.table t start facts at).2 in
    let t1 = c.in_ok-out.ensures.tells t in
    let safe = subst (λ (j : Flush). IsAt body_safe (Holds j.nodes j.node) j start facts d2) (sym e2) (c.in_ok-safe.ensures.table t1 start facts out).2 in
    let t2 = c.in_ok-safe.ensures.tells t1 in
    let set = subst (λ (j : Flush). IsAt gate_set (Holds j.nodes j.node) j start facts d3) (sym e3) (c.in_ok-set.ensures.table t2 start facts safe).2 in
    let t3 = c.in_ok-set.ensures.tells t2 in
    let last = c.step-4.ensures.table t3 start facts set in
    subst (λ (j : Flush). OnOk c.step-4.result (EachHolds (Holds j.nodes j.node) d4 (facts ++ j.group.facts)) × OnOk c.step-4.result (d4 ≡ group_safe j start) × OnErr c.step-4.result (EachHoldsEither (Holds j.nodes j.node) d4 facts j.group.facts))
    (e3 ∙ (e2 ∙ e1)) (last.2, last.3, last.1)
