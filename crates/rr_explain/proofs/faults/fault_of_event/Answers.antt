use Rattle.std.proofs.Common.{arith}
use Rattle.rr_explain.specs.Faults.{line_at}
use Rattle.rr_explain.proofs.faults.fault_of_event.Goals as goal

pub returns-in-Err : goal.returns-in-Err
returns-in-Err c = c.said-in-Err.ensures (line_at c.args.number c.args.bytes.now) (omega arith)
