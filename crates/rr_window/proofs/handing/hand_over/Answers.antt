use Rattle.std.proofs.Common.{refl, sym, ap, ◌∙◌, subst}
use Rattle.rr_window.specs.InOrder.{first_of, IsOne}
use Rattle.rr_window.proofs.Moves.{begins, forks}
use Rattle.rr_window.proofs.handing.hand_over.Goals as goal

pub bounded_with-requires-clause-rule : goal.bounded_with-requires-clause-rule
bounded_with-requires-clause-rule g c = begins

pub another-giving-requires-clause-rule : goal.another-giving-requires-clause-rule
another-giving-requires-clause-rule g c =
    let e = c.in_ok-sender.ensures.3 in
    forks _ _ (subst IsOne (sym e) refl) (ap (λ h. (first_of h).takes) e)
