use Rattle.std.proofs.Common.{option_map, ◌<◌, [], ◌∷◌, ap, sym, refl, ◌∙◌, subst}
use Rattle.std.specs.BTreeMap.{insert_entry}
use Rattle.std.specs.Ordering.{nat_cmp}
use Rattle.rr_types.specs.declared.command.Command.{Command}
use Rattle.rr_model.specs.NodeState.{Row, put_row}
use Rattle.rr_registry.specs.Places.{filled}
use Rattle.rr_state.specs.Listed.{decision_at, KeepsDecisions}
use Rattle.rr_state.specs.Rowed.{rows_in, IsNoted, AscendFrom, AreInstances, AreKeyed}
use Rattle.rr_state.proofs.TableLemmas.{placed_row, keyed_row}
use Rattle.rr_state.proofs.NotedLemmas.{table_absorbed, ascend_puts, instances_puts, all_one, decision_put}
use Rattle.rr_state.proofs.rows.Rows.put.Goals as goal

pub invariant_of-self-2 : goal.invariant_of-self-2
invariant_of-self-2 c =
    let at = c.number-2.ensures.value ∙ ap (λ (r : Row). r.instance) c.row.view_is in
    let entries = c.put.ensures.filled ∙ ap (λ es. insert_entry nat_cmp es c.number-2.result c.args.row) c.in_ok-make_place.ensures.filled in
    let rows = ap (λ es. rows_in es) entries ∙ placed_row c.args.row _ (filled c.self.inside.rows) c.self.invariant.keyed at in
    table_absorbed (filled c.self.inside.rows) (filled c.put.new.self) (c.args.row ∷ []) (c.args.row.instance ∷ [])
    (filled c.self.inside.requests.entries) _ c.self.inside.end _ c.self.invariant
    (subst AreKeyed (sym entries) (keyed_row c.args.row _ (filled c.self.inside.rows) c.self.invariant.keyed at))
    rows refl
    (all_one (λ (r : Row). r.instance < 1048576) c.args.row (subst (λ i. i < 1048576) at c.number-2.ensures.range))
    (subst (λ before. KeepsDecisions before (put_row c.args.row before)) (sym c.self.view_is) c.requires)
    (subst (λ i. IsNoted (rows_in (filled c.put.new.self)) (i ∷ []) (filled c.self.inside.requests.entries) (filled c.insert_request.new.requests.entries) c.self.inside.end c.in_ok-self-inside.field-0) (ap (λ (r : Row). r.instance) c.row.view_is)
    (c.in_ok-self-inside.ensures.noted (rows_in (filled c.put.new.self))
    (ap (option_map (λ (v : Command). v.request)) (ap (decision_at (rows_in (filled c.put.new.self))) (ap (λ (r : Row). r.instance) c.row.view_is) ∙ ap (λ rs. decision_at rs c.args.row.instance) rows ∙ decision_put c.args.row (rows_in (filled c.self.inside.rows)))
    ∙ sym c.decided_request-request.ensures)))

pub returns-clause-ok : goal.returns-clause-ok
returns-clause-ok c =
    ap (λ es. rows_in es) (c.put.ensures.filled ∙ ap (λ es. insert_entry nat_cmp es c.number-2.result c.args.row) c.in_ok-make_place.ensures.filled)
    ∙ placed_row c.args.row _ (filled c.self.inside.rows) c.self.invariant.keyed (c.number-2.ensures.value ∙ ap (λ (r : Row). r.instance) c.row.view_is)
    ∙ ap (put_row c.args.row) c.self.view_is

pub returns-clause-ascend : goal.returns-clause-ascend
returns-clause-ascend c =
    let entries = c.put.ensures.filled ∙ ap (λ es. insert_entry nat_cmp es c.number-2.result c.args.row) c.in_ok-make_place.ensures.filled in
    let rows = ap (λ es. rows_in es) entries ∙ placed_row c.args.row _ (filled c.self.inside.rows) c.self.invariant.keyed (c.number-2.ensures.value ∙ ap (λ (r : Row). r.instance) c.row.view_is) in
    subst (AscendFrom 0) (sym rows) (ascend_puts (rows_in (filled c.self.inside.rows)) (c.args.row ∷ []) c.self.invariant.ascend)

pub returns-clause-instances : goal.returns-clause-instances
returns-clause-instances c =
    let at = c.number-2.ensures.value ∙ ap (λ (r : Row). r.instance) c.row.view_is in
    let entries = c.put.ensures.filled ∙ ap (λ es. insert_entry nat_cmp es c.number-2.result c.args.row) c.in_ok-make_place.ensures.filled in
    let rows = ap (λ es. rows_in es) entries ∙ placed_row c.args.row _ (filled c.self.inside.rows) c.self.invariant.keyed at in
    subst AreInstances (sym rows) (instances_puts (rows_in (filled c.self.inside.rows)) (c.args.row ∷ []) c.self.invariant.instances (all_one (λ (r : Row). r.instance < 1048576) c.args.row (subst (λ i. i < 1048576) at c.number-2.ensures.range)))
