use Rattle.std.proofs.Common.{◌∙◌, ap, sym, inr}
use Rattle.rr_model.specs.NodeStep.{input_refusal}
use Rattle.rr_core.proofs.InputSteps.{refused}
use Rattle.rr_core.proofs.TakenLemmas.{taken_at}
use Rattle.rr_core.proofs.node_core.Core.step.Goals as goal

pub commit-requires : goal.commit-requires
commit-requires c = taken_at c.args.input.now c.deref-2.result.now c.take_room.new.self c.in-Ok.changes.value (c.deref-2.ensures ∙ c.self-2.view_is) c.in-Ok.ensures.ok

pub returns-in-Some-clause-refused : goal.returns-in-Some-clause-refused
returns-in-Some-clause-refused c =
    inr (refused c.args.input.now c.args.self.now c.in-Some.refusal (ap (input_refusal c.args.input.now) (sym (c.deref.ensures ∙ c.self.view_is)) ∙ sym c.in-Some.ensures))
