use Rattle.rr_node.proofs.serving.Serving.fail.Goals as goal

pub returns-in_default : goal.returns-in_default
returns-in_default c = c.fail_due.ensures c.args.self.core
