use Rattle.std.proofs.Common.{length, ap, arith}
use Rattle.rr_account.proofs.StepLaws.{share_none, share_one}
use Rattle.rr_account.proofs.watching.watch_event.Goals as goal

pub returns-then-lines-told-clause-adds : goal.returns-then-lines-told-clause-adds
returns-then-lines-told-clause-adds c =
    share_none c.args.line c.args.event.now c.args.cluster.now c.step.new.self c.untold_outcome.result c.stance_at-before.result c.stance_at-behind.result c.wire.result.now c.in_ok-step.ensures.ok
    (omega (arith, c.if-lines-told.true, ap length c.lines.ensures, ap length c.lines-told.ensures))
    c.stance_at-before.ensures c.stance_at-behind.ensures c.wire.ensures c.untold_outcome.ensures.is c.untold_outcome.ensures.untold

pub returns-else-lines-told-clause-adds : goal.returns-else-lines-told-clause-adds
returns-else-lines-told-clause-adds c =
    share_one c.args.line c.args.event.now c.args.cluster.now c.step.new.self c.in_ok-step.ensures.ok
    (λ same. omega (arith, c.if-lines-told.false, same, ap length c.lines.ensures, ap length c.lines-told.ensures))
