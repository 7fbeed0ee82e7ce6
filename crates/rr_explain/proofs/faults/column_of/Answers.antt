use Rattle.std.proofs.Common.{arith}
use Rattle.rr_explain.proofs.FaultLemmas.{rest_length}
use Rattle.rr_explain.proofs.faults.column_of.Goals as goal

pub overflow_sub-result : goal.overflow_sub-result
overflow_sub-result c = omega (arith, rest_length c.args.line.now c.args.rest.now c.requires)

pub returns : goal.returns
returns c = omega (arith, rest_length c.args.line.now c.args.rest.now c.requires)
