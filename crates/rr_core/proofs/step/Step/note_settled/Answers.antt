use Rattle.std.proofs.Common.{true, ap, ◌∙◌}
use Rattle.rr_core.specs.Steps.{Stepped, Changed}
use Rattle.rr_core.proofs.SettledLemmas.{fits_settled}
use Rattle.rr_core.proofs.step.Step.note_settled.Goals as goal

pub invariant_of-self : goal.invariant_of-self
invariant_of-self c =
    fits_settled c.self.inside.base.now c.self.inside.changes.value c.settle.new.self c.args.is_spent c.args.self.now.state
    (c.settle.ensures ∙ ap (λ (m : Changed). record m { spent = c.args.is_spent; settled = true }) c.deref_mut.ensures.value)
    (ap (λ (w : Stepped). w.state) c.self.view_is) c.requires.due c.requires.spent c.self.invariant
