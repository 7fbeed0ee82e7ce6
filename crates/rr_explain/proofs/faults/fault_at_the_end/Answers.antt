use Rattle.std.proofs.Common.{refl, arith}
use Rattle.rr_explain.proofs.FaultLemmas.{plain_on, missing_plain}
use Rattle.rr_explain.proofs.faults.fault_at_the_end.Goals as goal

pub returns : goal.returns
returns c = record { same = refl; on = plain_on c.args.line.now _ _ (omega arith) (omega arith) (missing_plain c.called.result.now c.expected.result.now c.called.ensures c.expected.ensures) }
