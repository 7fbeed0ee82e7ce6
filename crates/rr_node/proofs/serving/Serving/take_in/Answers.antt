use Rattle.rr_node.proofs.serving.Serving.take_in.Goals as goal

pub returns-in-Told : goal.returns-in-Told
returns-in-Told c = rw c.in-Told.is c.tell.ensures

pub returns-in-Take : goal.returns-in-Take
returns-in-Take c = rw c.in-Take.is c.take.ensures

pub returns-in-Mark : goal.returns-in-Mark
returns-in-Mark c = rw c.in-Mark.is c.mark.ensures

pub returns-in-Snap : goal.returns-in-Snap
returns-in-Snap c = rw c.in-Snap.is c.snap.ensures
