use Rattle.std.proofs.Common.{IsTrue, take, ◌∙◌, arith, subst}
use Rattle.std.specs.List.{All}
use Rattle.std.proofs.lemmas.List.{take_all}
use Rattle.std.proofs.lemmas.List.Elements.{All-more, All-weaker}
use Rattle.rr_model.specs.NodeState.{Row}
use Rattle.rr_state.specs.Marked.{has_mark_place}
use Rattle.rr_state.proofs.marks.Marks.make_places.Goals as goal

pub loop-row-preserved : goal.loop-row-preserved
loop-row-preserved c =
    let place = subst (λ (r : Row). IsTrue (has_mark_place c.make_place.new.self r.instance)) c.row.view_is c.in_ok-make_place.ensures.made in
    record {
      value = c.make_place.ensures.value ∙ c.loop-row.invariant.value;
      marks = λ h. c.make_place.ensures.marks (c.loop-row.invariant.marks h);
      moved = c.make_place.ensures.moved ∙ c.loop-row.invariant.moved;
      prefix = c.make_place.ensures.prefix ∙ c.loop-row.invariant.prefix;
      made =
          All-more (λ (r : Row). IsTrue (has_mark_place c.make_place.new.self r.instance)) c.args.rows.now c.loop-row.row-index c.row-item.result c.loop-row-test.true
          (All-weaker (λ (r : Row). IsTrue (has_mark_place c.loop-row.self r.instance)) (λ (r : Row). IsTrue (has_mark_place c.make_place.new.self r.instance)) (λ r h. c.make_place.ensures.stay r.instance h) (take c.loop-row.row-index c.args.rows.now) c.loop-row.invariant.made)
          (rw (← c.row-item.is) place);
      stay = λ i h. c.make_place.ensures.stay i (c.loop-row.invariant.stay i h);
    }

pub returns-clause-made : goal.returns-clause-made
returns-clause-made c = subst (All (λ (r : Row). IsTrue (has_mark_place c.loop-row.self r.instance))) (take_all c.loop-row.row-index c.args.rows.now (omega (arith, c.loop-row-test.false))) c.loop-row.invariant.made
