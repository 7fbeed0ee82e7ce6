use Rattle.std.proofs.Common.{arith}
use Rattle.rr_account.proofs.HeardLaws.{heard_joins}
use Rattle.rr_account.proofs.decisions.joined.Goals as goal

pub returns-then-eq-3 : goal.returns-then-eq-3
returns-then-eq-3 c = λ x has.
    heard_joins c.args.seen.now c.args.node c.in-Acked.from c.args.instance c.args.round c.in-Acked.by c.in-Acked.of c.in-Acked.at c.args.set c.with.result x c.in-Acked.is
    (grind (arith, c.eq.ensures, c.if-eq.true)) (grind (arith, c.eq-then-eq.ensures, c.if-eq-2.true)) (grind (arith, c.eq-then-eq-2.ensures, c.if-eq-3.true)) c.with.ensures has
