use Rattle.std.proofs.Common.{◌<◌, List, map, ap, sym, ◌∙◌, subst, IsTrue}
use Rattle.std.specs.List.{All}
use Rattle.std.specs.Ordering.{nat_cmp}
use Rattle.rr_model.specs.NodeState.{Row}
use Rattle.rr_registry.specs.Places.{filled, has_place}
use Rattle.rr_state.specs.Listed.{put_rows, KeepsDecisions}
use Rattle.rr_state.specs.Rowed.{rows_in, HavePlaces, HoldsDecided, has_request_place, IsNoted, AscendFrom, AreInstances}
use Rattle.rr_state.proofs.NotedLemmas.{put_places, held_place, table_absorbed, ascend_puts, instances_puts}
use Rattle.rr_state.proofs.rows.Rows.absorb_all.Goals as goal

pub put_all-requires-clause-places : goal.put_all-requires-clause-places
put_all-requires-clause-places c = subst (All (λ (r : Row). IsTrue (has_place nat_cmp c.make_places.new.map r.instance))) c.deref-2.ensures.value c.in-Ok.ensures.row_places

pub note_decisions-self-inside-requires-clause-places : goal.note_decisions-self-inside-requires-clause-places
note_decisions-self-inside-requires-clause-places c =
    let places = c.make_places.new.requests.entries in
    let before = rows_in (filled c.self.inside.rows) in
    let held : HoldsDecided before (filled places) = subst (HoldsDecided before) (sym c.in-Ok.ensures.requests) c.self.invariant.holds in
    let rows = c.put_all.ensures.rows ∙ ap (λ es. put_rows (rows_in es) c.args.rows.items) c.in-Ok.ensures.rows in
    subst (HavePlaces places) (sym rows)
    (put_places places before c.args.rows.items (held_place places before held)
    (subst (All (λ (r : Row). IsTrue (has_request_place places r))) c.deref-2.ensures.value c.in-Ok.ensures.request_places))

pub invariant_of-self : goal.invariant_of-self
invariant_of-self c =
    let rows = c.put_all.ensures.rows ∙ ap (λ es. put_rows (rows_in es) c.args.rows.items) c.in-Ok.ensures.rows in
    table_absorbed (filled c.self.inside.rows) (filled c.put_all.new.map) c.args.rows.items c.deref-in-Ok.result.now
    (filled c.self.inside.requests.entries) _ c.self.inside.end _ c.self.invariant c.put_all.ensures.keyed rows
    (c.deref-in-Ok.ensures.value ∙ c.in_ok-instances.ensures.ok ∙ ap (λ (rs : List Row). map (λ (r : Row). r.instance) rs) c.deref.ensures.value)
    (subst (All (λ (r : Row). r.instance < 1048576)) c.deref-2.ensures.value c.in-Ok.ensures.instances)
    (subst (λ before. KeepsDecisions before (put_rows before c.args.rows.items)) (sym c.self.view_is) c.requires)
    (subst (λ requests. IsNoted (rows_in (filled c.put_all.new.map)) c.deref-in-Ok.result.now requests (filled c.note_decisions-self-inside.new.requests.entries) c.self.inside.end c.note_decisions-self-inside.result) c.in-Ok.ensures.requests c.note_decisions-self-inside.ensures.noted)

pub returns-in-Ok-clause-ascend : goal.returns-in-Ok-clause-ascend
returns-in-Ok-clause-ascend c =
    let rows = c.put_all.ensures.rows ∙ ap (λ es. put_rows (rows_in es) c.args.rows.items) c.in-Ok.ensures.rows in
    subst (AscendFrom 0) (sym rows) (ascend_puts (rows_in (filled c.self.inside.rows)) c.args.rows.items c.self.invariant.ascend)

pub returns-in-Ok-clause-instances : goal.returns-in-Ok-clause-instances
returns-in-Ok-clause-instances c =
    let rows = c.put_all.ensures.rows ∙ ap (λ es. put_rows (rows_in es) c.args.rows.items) c.in-Ok.ensures.rows in
    subst AreInstances (sym rows)
    (instances_puts (rows_in (filled c.self.inside.rows)) c.args.rows.items c.self.invariant.instances
    (subst (All (λ (r : Row). r.instance < 1048576)) c.deref-2.ensures.value c.in-Ok.ensures.instances))
