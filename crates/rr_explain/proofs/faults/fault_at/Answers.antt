use Rattle.std.proofs.Common.{arith}
use Rattle.rr_explain.specs.Faults.{line_at}
use Rattle.rr_explain.proofs.faults.fault_at.Goals as goal

pub returns-in-None : goal.returns-in-None
returns-in-None c = c.said.ensures (line_at c.args.number c.args.lines.now) (omega arith)
