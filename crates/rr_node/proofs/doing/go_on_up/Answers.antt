use Rattle.rr_node.proofs.doing.go_on_up.Goals as goal

pub returns-in-Some-Ok : goal.returns-in-Some-Ok
returns-in-Some-Ok c = rw c.in-Some-Ok.field-0-is at c.in-Some-Ok.ensures.carries

pub returns-in-Some-Err : goal.returns-in-Some-Err
returns-in-Some-Err c = rw c.in-Some-Err.refusal-is (rw c.in-Some-Err.field-0-is at c.in-Some-Err.ensures.carries)
