use Rattle.std.proofs.Common.{ap, ◌∙◌}
use Rattle.rr_model.specs.NodeState.{Row}
use Rattle.rr_registry.specs.Places.{filled}
use Rattle.rr_state.specs.Rowed.{rows_in}
use Rattle.rr_state.proofs.TableLemmas.{placed_row, keyed_row}
use Rattle.rr_state.proofs.rows.put_row.Goals as goal

pub returns-clause-rows : goal.returns-clause-rows
returns-clause-rows c =
    ap (λ es. rows_in es) c.put.ensures.filled
    ∙ placed_row c.args.row _ (filled c.args.map.now) c.requires.keyed (c.number-number.ensures.value ∙ ap (λ (r : Row). r.instance) c.row.view_is)

pub returns-clause-keyed : goal.returns-clause-keyed
returns-clause-keyed c = rw c.put.ensures.filled (keyed_row c.args.row _ (filled c.args.map.now) c.requires.keyed (c.number-number.ensures.value ∙ ap (λ (r : Row). r.instance) c.row.view_is))
