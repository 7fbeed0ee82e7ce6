use Rattle.std.proofs.Common.{ap, sym, ◌∙◌}
use Rattle.rr_model.specs.NodeState.{row_of}
use Rattle.rr_registry.specs.Places.{filled}
use Rattle.rr_state.proofs.TableLemmas.{row_at}
use Rattle.rr_state.proofs.rows.Rows.row.Goals as goal

pub returns-in-Some-clause-row : goal.returns-in-Some-clause-row
returns-in-Some-clause-row c = ap (λ rows. row_of rows c.args.number) (sym c.self.view_is) ∙ row_at (filled c.self.inside.rows) c.args.number c.self.invariant.keyed ∙ c.in-Some.ensures

pub returns-in-None-clause-row : goal.returns-in-None-clause-row
returns-in-None-clause-row c = ap (λ rows. row_of rows c.args.number) (sym c.self.view_is) ∙ row_at (filled c.self.inside.rows) c.args.number c.self.invariant.keyed ∙ c.in-None.ensures
