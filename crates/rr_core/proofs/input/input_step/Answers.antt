use Rattle.std.proofs.Common.{◌≡◌, ◌∙◌, ap}
use Rattle.rr_model.specs.NodeStep.{taken_in}
use Rattle.rr_core.specs.Steps.{stepped}
use Rattle.rr_core.proofs.InputSteps.{refused_of}
use Rattle.rr_core.proofs.input.input_step.Goals as goal

pub returns-clause-refused : goal.returns-clause-refused
returns-clause-refused c =
    let end : c.take_in.new.step ≡ stepped (taken_in c.args.input.now) (record { base = c.args.state.now; state = c.args.state.now }) = c.in_ok-take_in.ensures.ok ∙ ap (stepped (taken_in c.args.input.now)) c.new-step.ensures in
    refused_of c.args.input.now c.args.state.now c.take_in.new.step c.finish.result end c.requires.allowed c.finish.ensures.refused
