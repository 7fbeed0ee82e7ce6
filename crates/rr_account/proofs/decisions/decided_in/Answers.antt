use Rattle.rr_account.proofs.HeardLaws.{decided_none, decided_step, decided_end}
use Rattle.std.proofs.Common.{arith}
use Rattle.rr_account.proofs.decisions.decided_in.Goals as goal

pub loop-place-init : goal.loop-place-init
loop-place-init c = decided_none c.args.nodes c.args.seen.now c.new-all.result.items c.new-before.result c.new-all.ensures.items

pub loop-place-preserved : goal.loop-place-preserved
loop-place-preserved c =
    decided_step c.args.nodes c.args.seen.now c.loop-place.place c.loop-place.all.items c.push.new.self.items c.loop-place.before c.unless_before.new.before c.decided_at-decided.result c.in_ok-first.first c.loop-place.invariant
    c.decided_at-decided.ensures c.in_ok-first.ensures.first c.in_ok-first.ensures.keeps (search (c.in_ok-push.ensures))

pub returns : goal.returns
returns c = decided_end c.args.nodes c.args.seen.now c.loop-place.place c.loop-place.all.items c.loop-place.before c.loop-place.invariant (omega arith)
