use Rattle.std.proofs.Common.{◌≡◌, IsTrue, take, subst, ap, ◌∙◌, arith, ◌<◌}
use Rattle.std.specs.List.{All}
use Rattle.std.specs.Ordering.{nat_cmp}
use Rattle.std.proofs.lemmas.List.{take_all}
use Rattle.std.proofs.lemmas.List.Elements.{All-more, All-weaker}
use Rattle.rr_model.specs.NodeState.{Row}
use Rattle.rr_registry.specs.Places.{has_place}
use Rattle.rr_state.proofs.rows.make_row_places.Goals as goal

pub returns-clause-made : goal.returns-clause-made
returns-clause-made c = subst (All (λ (r : Row). IsTrue (has_place nat_cmp c.loop-row.map r.instance))) (take_all c.loop-row.row-index c.args.rows.now (omega (arith, c.loop-row-test.false))) c.loop-row.invariant.made

pub returns-clause-instances : goal.returns-clause-instances
returns-clause-instances c = subst (All (λ (r : Row). r.instance < 1048576)) (take_all c.loop-row.row-index c.args.rows.now (omega (arith, c.loop-row-test.false))) c.loop-row.invariant.instances

pub loop-row-preserved : goal.loop-row-preserved
loop-row-preserved c =
    let rows = c.args.rows.now in
    let places = c.make_place.new.self in
    let at : c.number.result ≡ c.row-item.result.instance = c.number.ensures.value ∙ ap (λ (r : Row). r.instance) c.row.view_is in
    let place : IsTrue (has_place nat_cmp places c.row-item.result.instance) = subst (λ i. IsTrue (has_place nat_cmp places i)) at c.in_ok-make_place.ensures.made in
    let range : c.row-item.result.instance < 1048576 = subst (λ i. i < 1048576) at c.number.ensures.range in
    record {
      kept = c.make_place.ensures.filled ∙ c.loop-row.invariant.kept;
      made =
          All-more (λ (r : Row). IsTrue (has_place nat_cmp places r.instance)) rows c.loop-row.row-index c.row-item.result c.loop-row-test.true
          (All-weaker (λ (r : Row). IsTrue (has_place nat_cmp c.loop-row.map r.instance)) (λ (r : Row). IsTrue (has_place nat_cmp places r.instance)) (λ r. c.make_place.ensures.kept r.instance) (take c.loop-row.row-index rows) c.loop-row.invariant.made)
          (rw (← c.row-item.is) place);
      instances =
          All-more (λ (r : Row). r.instance < 1048576) rows c.loop-row.row-index c.row-item.result c.loop-row-test.true c.loop-row.invariant.instances (rw (← c.row-item.is) range);
    }
