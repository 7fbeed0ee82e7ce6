use Rattle.std.proofs.Common.{ap, sym, ◌∙◌, option_map}
use Rattle.rr_types.specs.declared.command.Command.{Command}
use Rattle.rr_registry.specs.Places.{filled}
use Rattle.rr_state.specs.Listed.{decision_at}
use Rattle.rr_state.specs.Rowed.{rows_in}
use Rattle.rr_state.proofs.TableLemmas.{row_at, decision_none, decision_some}
use Rattle.rr_state.proofs.NotedLemmas.{noted_none, request_place}
use Rattle.rr_state.proofs.rows.note_decision.Goals as goal

pub note_request-requires : goal.note_request-requires
note_request-requires c =
    let rows = rows_in (filled c.args.rows.now) in
    let at = ap (decision_at rows) (sym c.number.ensures.value) ∙ decision_some rows c.number.result c.in-Some.row.now (row_at (filled c.args.rows.now) c.number.result c.requires.keyed ∙ c.in-Some.ensures) in
    record { place = request_place c.args.requests.now.entries rows c.args.instance c.decided_request.result c.requires.places (ap (option_map (λ (v : Command). v.request)) at ∙ sym c.decided_request.ensures) }

pub returns-in-None-clause-noted : goal.returns-in-None-clause-noted
returns-in-None-clause-noted c =
    let rows = rows_in (filled c.args.rows.now) in
    let none = decision_none rows c.number.result (row_at (filled c.args.rows.now) c.number.result c.requires.keyed ∙ c.in-None.ensures) in
    noted_none rows c.args.instance _ c.args.end (ap (decision_at rows) (sym c.number.ensures.value) ∙ none)

pub returns-in-Some-clause-noted : goal.returns-in-Some-clause-noted
returns-in-Some-clause-noted c =
    let rows = rows_in (filled c.args.rows.now) in
    let at = ap (decision_at rows) (sym c.number.ensures.value) ∙ decision_some rows c.number.result c.in-Some.row.now (row_at (filled c.args.rows.now) c.number.result c.requires.keyed ∙ c.in-Some.ensures) in
    c.note_request.ensures.noted rows (ap (option_map (λ (v : Command). v.request)) at ∙ sym c.decided_request.ensures)
