use Rattle.std.proofs.Common.{◌≡◌, ◌∷◌, ap, sym, ◌∙◌, IsTrue, subst}
use Rattle.std.specs.List.{All}
use Rattle.std.specs.Ordering.{nat_cmp}
use Rattle.std.specs.Vec.Iter.{into_iter_items}
use Rattle.std.proofs.lemmas.List.Elements.{All-tail, All-weaker}
use Rattle.rr_model.specs.NodeState.{Row}
use Rattle.rr_registry.specs.Places.{filled, has_place}
use Rattle.rr_state.specs.Listed.{put_rows}
use Rattle.rr_state.specs.Rowed.{rows_in}
use Rattle.rr_state.proofs.rows.put_all.Goals as goal

pub loop-row-preserved : goal.loop-row-preserved
loop-row-preserved c =
    let steps : into_iter_items c.loop-row.row-iterator ≡ c.in-Some.row ∷ into_iter_items c.next.new.self = c.in-Some.ensures.steps.0 in
    let places = subst (All (λ (r : Row). IsTrue (has_place nat_cmp c.loop-row.map r.instance))) steps c.loop-row.invariant.places in
    record {
      left =
          ap (λ rows. put_rows rows (into_iter_items c.next.new.self)) c.put_row.ensures.rows
          ∙ sym (ap (λ rest. put_rows (rows_in (filled c.loop-row.map)) rest) steps) ∙ c.loop-row.invariant.left;
      keyed = c.put_row.ensures.keyed;
      places =
          All-weaker (λ (r : Row). IsTrue (has_place nat_cmp c.loop-row.map r.instance)) (λ (r : Row). IsTrue (has_place nat_cmp c.put_row.new.map r.instance))
          (λ r h. c.put_row.ensures.places r.instance ∙ h) (into_iter_items c.next.new.self)
          (All-tail (λ (r : Row). IsTrue (has_place nat_cmp c.loop-row.map r.instance)) c.in-Some.row (into_iter_items c.next.new.self) places);
    }
