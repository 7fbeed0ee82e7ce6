use Rattle.rr_node.proofs.ServingLaws.{told_on}
use Rattle.rr_node.proofs.serving.Serving.tell.Goals as goal

pub returns : goal.returns
returns c =
    let said = c.step.ensures in
    let s = c.args.self.now in
    λ n p h. told_on c.args.input.now s.core c.step.new.self s.slots s.flush c.step.result n p (record { ok = said.ok; allowed = said.allowed; order = said.order; refused = said.refused; err = said.err }) h
