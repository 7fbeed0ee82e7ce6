use Rattle.std.proofs.Common.{ℕ, List, ◌-◌, ◌+◌, IfSome, subst, ◌∙◌, arith}
use Rattle.rr_explain.specs.Found.{IsFaultOf}
use Rattle.rr_explain.proofs.FaultLemmas.{line_past, line_here}
use Rattle.rr_explain.proofs.faults.fault_in_line.Goals as goal

pub loop-line-preserved : goal.loop-line-preserved
loop-line-preserved c =
    let number = c.args.number in
    let line = c.loop-line._line in
    line_past (number - (line + 1)) (number - line) c.loop-line.rest.now _ c.in-Some.behind.now (omega arith) c.in-Some.ensures ∙ c.loop-line.invariant

pub returns-in-Some-cut : goal.returns-in-Some-cut
returns-in-Some-cut c =
    let number = c.args.number in
    let here = line_here (number - c.loop-line._line) c.loop-line.rest.now c.in-Some-cut.line.now _ (omega arith) c.in-Some-cut.ensures ∙ c.loop-line.invariant in
    subst (λ (l : List ℕ). IfSome c.fault_of_line.result (IsFaultOf l number)) here c.fault_of_line.ensures
