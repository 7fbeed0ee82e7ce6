use Rattle.std.proofs.Common.{ap, ◌∙◌, filter, not}
use Rattle.rr_state.specs.Arrived.{without_first}
use Rattle.rr_state.proofs.ArrivalLemmas.{is_of, indexed_remove, removed, not_there, first_is_all}
use Rattle.rr_state.proofs.arrivals.Arrivals.remove.Goals as goal

pub invariant_of-self : goal.invariant_of-self
invariant_of-self g c = indexed_remove g.V.Requested.request_of _ _ _ _ _ _ c.args.request c.self.invariant c.in-Some.ensures.value c.remove-in-Some.ensures.entries c.remove.ensures.updates.0

pub returns-in-Some-clause-rest : goal.returns-in-Some-clause-rest
returns-in-Some-clause-rest g c =
    removed g.V.Requested.request_of _ _ _ _ _ c.args.request c.self.invariant c.in-Some.ensures.value c.remove-in-Some.ensures.entries
    ∙ first_is_all g.V.Requested.request_of c.self.inside.order.entries c.args.request c.self.invariant.once
    ∙ ap (λ vs. filter (λ v. not (is_of g.V.Requested.request_of c.args.request v)) vs) c.self.view_is

pub returns-in-Some-clause-first : goal.returns-in-Some-clause-first
returns-in-Some-clause-first g c =
    removed g.V.Requested.request_of _ _ _ _ _ c.args.request c.self.invariant c.in-Some.ensures.value c.remove-in-Some.ensures.entries
    ∙ ap (λ vs. without_first (is_of g.V.Requested.request_of c.args.request) vs) c.self.view_is

pub returns-in_default-clause-rest : goal.returns-in_default-clause-rest
returns-in_default-clause-rest g c =
    not_there g.V.Requested.request_of _ _ _ c.args.request c.self.invariant c.in_default.ensures.value
    ∙ first_is_all g.V.Requested.request_of c.self.inside.order.entries c.args.request c.self.invariant.once
    ∙ ap (λ vs. filter (λ v. not (is_of g.V.Requested.request_of c.args.request v)) vs) c.self.view_is

pub returns-in_default-clause-first : goal.returns-in_default-clause-first
returns-in_default-clause-first g c =
    not_there g.V.Requested.request_of _ _ _ c.args.request c.self.invariant c.in_default.ensures.value
    ∙ ap (λ vs. without_first (is_of g.V.Requested.request_of c.args.request) vs) c.self.view_is
