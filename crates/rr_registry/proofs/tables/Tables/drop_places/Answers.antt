use Rattle.std.proofs.Common.{ap, is_some, ◌∙◌}
use Rattle.rr_registry.specs.Tables.{kept_in}
use Rattle.rr_registry.proofs.TableLemmas.{lookup-request, eq-request_cmp}
use Rattle.rr_registry.proofs.FreeLemmas.{free_dropped}
use Rattle.rr_registry.proofs.tables.Tables.drop_places.Goals as goal

pub returns-clause-free : goal.returns-clause-free
returns-clause-free c = λ cs h.
    let before = c.args.self.now in
    let command = c.args.command.now in
    let named = c.drop_free_place-2.ensures in
    free_dropped before _ command cs
    (rw (named.bindings, c.drop_free_place.ensures.filled))
    named.gone
    named.only
    (c.drop_free_place.ensures.gone ∙ ap is_some (lookup-request command.request (kept_in before).replies))
    (λ q other. c.drop_free_place.ensures.only q (eq-request_cmp command.request q ∙ other))
    h
