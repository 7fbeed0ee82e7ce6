use Rattle.std.proofs.Common.{ap, ◌∙◌, ◌++◌, ◌∷◌, []}
use Rattle.std.specs.List.{list_any}
use Rattle.rr_state.proofs.ArrivalLemmas.{is_of, indexed_push, indexed_back, pushed}
use Rattle.rr_state.proofs.arrivals.Arrivals.push.Goals as goal

pub invariant_of-self-in-Ok : goal.invariant_of-self-in-Ok
invariant_of-self-in-Ok g c =
    let absent = ap (λ vs. list_any (is_of g.V.Requested.request_of (g.V.Requested.request_of c.args.value)) vs) c.self.view_is ∙ c.requires in
    indexed_push g.V.Requested.request_of _ _ _ _ _ c.args.value _ c.self.invariant c.request-request.ensures absent c.in-Ok.ensures.entries c.in_default.ensures.updates.0

pub invariant_of-self-in-Err-insert : goal.invariant_of-self-in-Err-insert
invariant_of-self-in-Err-insert g c =
    let absent = ap (λ vs. list_any (is_of g.V.Requested.request_of (g.V.Requested.request_of c.args.value)) vs) c.self.view_is ∙ c.requires in
    indexed_back g.V.Requested.request_of _ _ _ _ _ _ c.args.value _ c.self.invariant c.request-request.ensures absent c.in-Err-insert.ensures.err c.in_default.ensures.updates.0 c.remove.ensures.updates.0

pub returns-in-Ok-clause-ok : goal.returns-in-Ok-clause-ok
returns-in-Ok-clause-ok g c =
    pushed g.V.Requested.request_of _ _ _ c.args.value c.self.invariant.numbered c.in-Ok.ensures.entries ∙ ap (λ vs. vs ++ c.args.value ∷ []) c.self.view_is
