use Rattle.std.proofs.Common.{ap, sym, ◌∙◌}
use Rattle.rr_state.specs.Arrived.{seconds}
use Rattle.rr_state.proofs.ArrivalLemmas.{indexed_front, seconds_front}
use Rattle.rr_state.proofs.arrivals.Arrivals.take_back.Goals as goal

pub invariant_of-self : goal.invariant_of-self
invariant_of-self g c = indexed_front g.V.Requested.request_of _ _ _ _ _ _ _ c.self.invariant c.request.ensures c.in-Some.ensures.removal c.remove.ensures.updates.0

pub returns-in-Some : goal.returns-in-Some
returns-in-Some g c = λ vs v h. seconds_front _ _ vs v (ap (λ es. seconds es) (sym c.in-Some.ensures.removal) ∙ c.self.view_is ∙ h)
