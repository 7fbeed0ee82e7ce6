use Rattle.std.proofs.Common.{◌≡◌, ap, sym, ◌∙◌, arith, ◌++◌, ◌+◌}
use Rattle.rr_types.specs.Promises.{take_on_all, decided_from}
use Rattle.rr_state.specs.Marked.{marked_in}
use Rattle.rr_state.proofs.PrefixLemmas.{ascending}
use Rattle.rr_state.proofs.MarkLemmas.{run_from, decided_in, prefix_grows, found_more, found_all, ascend_all}
use Rattle.rr_state.proofs.marks.Marks.commands_after.Goals as goal

pub returns-in-None : goal.returns-in-None
returns-in-None c =
    record {
      ok = let es = marked_in c.args.rows.now c.args.self.now in
          let after = take_on_all es c.args.facts.now in
          let more = ascend_all es c.args.facts.now (ascending c.args.rows.now c.args.self.now c.requires.marks) in
          prefix_grows es after c.args.self.now.prefix (ascending c.args.rows.now c.args.self.now c.requires.marks) more c.requires.keeps c.requires.counted.count
          ∙ ap (λ x. decided_from 0 es ++ x) (sym c.loop-place.invariant.left ∙ found_all after c.loop-place.found.items c.loop-place.place more c.in-None.ensures.value);
    }

pub loop-place-preserved : goal.loop-place-preserved
loop-place-preserved c =
    let es = marked_in c.args.rows.now c.args.self.now in
    let after = take_on_all es c.args.facts.now in
    let more = ascend_all es c.args.facts.now (ascending c.args.rows.now c.args.self.now c.requires.marks) in
    record {
      left =
          ap (λ x. x ++ run_from after (c.loop-place.place + 1)) c.in_ok-push-in-Some.ensures.items
          ∙ found_more after c.loop-place.found.items c.loop-place.place c.in-Some.command.now more c.in-Some.ensures.value ∙ c.loop-place.invariant.left;
      small = omega (arith, c.loop-place-test.true);
    }

pub returns : goal.returns
returns c =
    record {
      ok = let es = marked_in c.args.rows.now c.args.self.now in
          let after = take_on_all es c.args.facts.now in
          let more = ascend_all es c.args.facts.now (ascending c.args.rows.now c.args.self.now c.requires.marks) in
          let s = c.loop-place.invariant.small in
          let place : c.loop-place.place ≡ 1048576 = omega (arith, s, c.loop-place-test.false) in
          prefix_grows es after c.args.self.now.prefix (ascending c.args.rows.now c.args.self.now c.requires.marks) more c.requires.keeps c.requires.counted.count
          ∙ ap (λ x. decided_from 0 es ++ x) (sym c.loop-place.invariant.left ∙ found_all after c.loop-place.found.items c.loop-place.place more (c.in-None-decision_after.ensures.value ∙ ap (decided_in after) (sym place)));
    }
