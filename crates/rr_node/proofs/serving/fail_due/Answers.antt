use Rattle.rr_node.proofs.serving.fail_due.Goals as goal

pub returns : goal.returns
returns c = λ s n p. rw c.fallen.ensures (c.step_on.ensures.fails s c.args.slots n p c.args.fill.items c.requires c.fail_next.ensures)
