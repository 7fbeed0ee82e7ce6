use Rattle.std.proofs.Common.{ap, ◌∙◌, arith, nat_lt, ◌-◌}
use Rattle.std.specs.List.{list_any}
use Rattle.rr_registry.specs.Places.{filled}
use Rattle.rr_state.proofs.NotedLemmas.{is_decided_above, above_is_decided, none_decided}
use Rattle.rr_state.proofs.rows.Rows.has_decided_above.Goals as goal

pub returns-then-self-eq0 : goal.returns-then-self-eq0
returns-then-self-eq0 c =
    none_decided (filled c.self.inside.rows) (filled c.self.inside.requests.entries) c.self.inside.end c.args.instance c.self.invariant (omega (arith, c.if-self-eq0.true))
    ∙ ap (λ rows. list_any (is_decided_above c.args.instance) rows) c.self.view_is

pub returns : goal.returns
returns c =
    ap (λ i. nat_lt i (c.self.inside.end - 1)) c.number.ensures.value
    ∙ above_is_decided (filled c.self.inside.rows) (filled c.self.inside.requests.entries) c.self.inside.end c.args.instance c.self.invariant (omega (arith, c.if-self-eq0.false))
    ∙ ap (λ rows. list_any (is_decided_above c.args.instance) rows) c.self.view_is
