use Rattle.std.proofs.Common.{ap, is_some, ◌∙◌}
use Rattle.std.specs.List.{list_any}
use Rattle.rr_registry.specs.Places.{filled}
use Rattle.rr_state.specs.Rowed.{has_decided}
use Rattle.rr_state.proofs.NotedLemmas.{held_is_decided}
use Rattle.rr_state.proofs.rows.Rows.has_decided.Goals as goal

pub returns : goal.returns
returns c =
    c.is_some.ensures ∙ ap (λ o. is_some o) c.value_at.ensures.value
    ∙ held_is_decided (filled c.self.inside.rows) (filled c.self.inside.requests.entries) c.self.inside.end c.args.request c.self.invariant
    ∙ ap (λ rows. list_any (has_decided c.args.request) rows) c.self.view_is
