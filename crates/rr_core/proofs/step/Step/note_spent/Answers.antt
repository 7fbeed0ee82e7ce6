use Rattle.std.proofs.Common.{ap, ◌∙◌}
use Rattle.rr_core.specs.Steps.{Stepped, Changed}
use Rattle.rr_core.proofs.SettledLemmas.{fits_spent}
use Rattle.rr_core.proofs.step.Step.note_spent.Goals as goal

pub invariant_of-self : goal.invariant_of-self
invariant_of-self c =
    fits_spent c.self.inside.base.now c.self.inside.changes.value c.spend.new.self c.args.is_spent c.args.self.now.state
    (c.spend.ensures ∙ ap (λ (m : Changed). record m { spent = c.args.is_spent }) c.deref_mut.ensures.value)
    (ap (λ (w : Stepped). w.state) c.self.view_is) c.requires c.self.invariant
