use Rattle.std.proofs.Common.{IsTrue, List, map, refl, ap, sym, subst, ◌∙◌, ◌++◌, ◌-◌, length}
use Rattle.std.specs.List.{All}
use Rattle.std.proofs.lemmas.List.Elements.{All-map}
use Rattle.rr_model.specs.NodeState.{Row, row_of, lowest_undecided}
use Rattle.rr_model.specs.NodeStep.{promised_row}
use Rattle.rr_state.specs.Listed.{put_rows}
use Rattle.rr_state.specs.Marked.{has_mark_place}
use Rattle.rr_state.specs.Rowed.{AscendFrom, AreInstances, EachKeeps}
use Rattle.rr_state.proofs.ListedLemmas.{placed_all, listed_is}
use Rattle.rr_state.proofs.OpenLemmas.{is_filled, promise_rows, promise_keeps}
use Rattle.rr_state.proofs.instances.Instances.restored.Goals as goal

pub restore-requires : goal.restore-requires
restore-requires c =
    let none = sym c.new-rows.ensures in
    record {
      keeps = subst (λ (rs : List Row). EachKeeps rs (map (promised_row c.args.next) c.args.promise.now)) none (promise_keeps c.args.next c.args.promise.now c.requires.ascends);
      ascend = subst (AscendFrom 0) none tt;
      instances = subst AreInstances none (λ i l. refl);
    }

pub invariant_of-result : goal.invariant_of-result
invariant_of-result c =
    let put = c.in-Ok.ensures.ok ∙ ap (λ (rs : List Row). put_rows rs (map (promised_row c.args.next) c.args.promise.now)) c.new-rows.ensures in
    let made : All (λ (r : Row). IsTrue (has_mark_place c.restore-in-Ok.new.self r.instance)) (map (promised_row c.args.next) c.args.promise.now) =
    All-map (λ (r : Row). IsTrue (has_mark_place c.restore-in-Ok.new.self r.instance)) (promised_row c.args.next) c.args.promise.now c.in_ok-restore-in-Ok.ensures.made in
    record {
      shown = c.fill-window.ensures ∙ ap (λ k. k ++ lowest_undecided (8 - length k) 0 c.restore.new.self) c.new.ensures ∙ is_filled c.restore.new.self;
      ascend = c.in-Ok.ensures.ascend;
      instances = c.in-Ok.ensures.instances;
      in_order = c.in_ok-restore-in-Ok.ensures.marks;
      moved = c.in_ok-restore-in-Ok.ensures.moved;
      counted = c.in_ok-restore-in-Ok.ensures.counted;
      placed = λ i f. ap (λ rs. row_of rs i) put ∙ placed_all (map (promised_row c.args.next) c.args.promise.now) c.restore-in-Ok.new.self made i f;
    }

pub returns-in_ok-restore-in-Ok : goal.returns-in_ok-restore-in-Ok
returns-in_ok-restore-in-Ok c =
    record {
      ok = listed_is c.restore.new.self _ _ c.args.promise.now
          (c.in-Ok.ensures.ok ∙ ap (λ (rs : List Row). put_rows rs (map (promised_row c.args.next) c.args.promise.now)) c.new-rows.ensures ∙ promise_rows c.args.next c.args.promise.now c.requires.ascends)
          c.in_ok-restore-in-Ok.ensures.value;
    }
