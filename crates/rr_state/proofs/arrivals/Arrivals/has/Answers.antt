use Rattle.std.proofs.Common.{ap, is_some, ◌∙◌}
use Rattle.std.specs.List.{list_any}
use Rattle.rr_state.proofs.ArrivalLemmas.{is_of, has_arrived}
use Rattle.rr_state.proofs.arrivals.Arrivals.has.Goals as goal

pub returns : goal.returns
returns g c =
    c.contains_key.ensures ∙ ap (λ o. is_some o) (c.self.invariant.found c.args.request) ∙ has_arrived g.V.Requested.request_of c.self.inside.order.entries c.args.request
    ∙ ap (λ vs. list_any (is_of g.V.Requested.request_of c.args.request) vs) c.self.view_is
