use Rattle.std.proofs.Common.{List, ℕ, subst, arith}
use Rattle.rr_explain.specs.Faults.{line_at}
use Rattle.rr_explain.specs.Found.{IsFaultOf}
use Rattle.rr_explain.proofs.FaultLemmas.{cut_first}
use Rattle.rr_explain.proofs.faults.fault_of_first.Goals as goal

pub returns-in-Some : goal.returns-in-Some
returns-in-Some c =
    subst (λ (l : List ℕ). IsFaultOf l 1 c.fault_of_first_line.result) (cut_first 10 c.args.bytes.now c.in-Some.line.now _ c.in-Some.ensures).0 c.fault_of_first_line.ensures

pub returns-in-None : goal.returns-in-None
returns-in-None c = c.said-in-None.ensures (line_at 1 c.args.bytes.now) (omega arith)
