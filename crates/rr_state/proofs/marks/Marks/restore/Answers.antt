use Rattle.std.proofs.Common.{◌∙◌, arith, ap, sym, ◌++◌, drop, length}
use Rattle.rr_types.specs.Promises.{decided_from}
use Rattle.rr_state.proofs.PrefixLemmas.{set_behind}
use Rattle.rr_state.proofs.RestoreLemmas.{behind_prefix, still_begun, restored_more, made_more, none_yet}
use Rattle.rr_state.proofs.marks.Marks.restore.Goals as goal

pub insert-requires-clause-behind : goal.insert-requires-clause-behind
insert-requires-clause-behind c =
    let so_far = c.loop-entry.invariant in
    let behind = behind_prefix c.args.rows.now c.loop-entry.self c.args.promise.now c.loop-entry.entry-index c.entry-item.result so_far.marks so_far.counted c.requires.ascending.ascends so_far.done c.loop-entry-test.true c.entry-item.is in
    let moved = so_far.marks.moved in
    omega (arith, behind, moved)

pub count_on-requires-clause-begun : goal.count_on-requires-clause-begun
count_on-requires-clause-begun c =
    let so_far = c.loop-entry.invariant in
    let behind = behind_prefix c.args.rows.now c.loop-entry.self c.args.promise.now c.loop-entry.entry-index c.entry-item.result so_far.marks so_far.counted c.requires.ascending.ascends so_far.done c.loop-entry-test.true c.entry-item.is in
    let moved = so_far.marks.moved in
    still_begun c.args.rows.now c.loop-entry.self c.insert.new.self c.entry-item.result so_far.marks so_far.counted behind
    (set_behind c.args.rows.now c.loop-entry.self c.insert.new.self c.entry-item.result.instance c.entry-item.result.standing (omega (arith, behind, moved)) c.in_ok-insert.ensures.moved c.in_ok-insert.ensures.value) c.in_ok-insert.ensures.prefix

pub loop-entry-preserved : goal.loop-entry-preserved
loop-entry-preserved c =
    let so_far = c.loop-entry.invariant in
    let k = c.loop-entry.entry-index in
    let x = c.entry-item.result in
    let more = c.loop-entry-test.true in
    let behind = behind_prefix c.args.rows.now c.loop-entry.self c.args.promise.now k x so_far.marks so_far.counted c.requires.ascending.ascends so_far.done more c.entry-item.is in
    let moved = so_far.marks.moved in
    record {
      done = restored_more c.args.rows.now c.loop-entry.self c.count_on.new.self c.args.promise.now k x c.requires.ascending.ascends so_far.done more c.entry-item.is
          (c.count_on.ensures.value ∙ set_behind c.args.rows.now c.loop-entry.self c.insert.new.self x.instance x.standing (omega (arith, behind, moved)) c.in_ok-insert.ensures.moved c.in_ok-insert.ensures.value);
      marks = c.count_on.ensures.marks;
      moved = c.count_on.ensures.moved;
      counted = c.count_on.ensures.counted;
      made =
          made_more c.loop-entry.self c.count_on.new.self c.args.promise.now k x more c.entry-item.is (λ i t. c.count_on.ensures.places i ∙ c.in_ok-insert.ensures.stay i t)
          (c.count_on.ensures.places x.instance ∙ c.in_ok-insert.ensures.made) so_far.made;
    }

pub loop-entry-init : goal.loop-entry-init
loop-entry-init c =
    let none = none_yet c.args.rows.now c.args.self.now c.requires.moved c.requires.empty in
    let moved = c.requires.moved in
    let prefix = c.requires.prefix in
    record {
      done = ap (λ es. es ++ drop 0 c.args.promise.now) none;
      marks = c.requires.marks;
      moved = λ i l. absurd (omega (arith, moved, l));
      counted = record { count = prefix ∙ ap (λ es. length (decided_from 0 es)) (sym none); small = omega (arith, prefix) };
      made = λ k d l. absurd (omega (arith, l));
    }

pub count_on-requires-clause-moved : goal.count_on-requires-clause-moved
count_on-requires-clause-moved c = λ i l. c.loop-entry.invariant.moved i (let e = c.in_ok-insert.ensures.moved in omega (arith, e, l))
