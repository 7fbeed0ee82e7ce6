use Rattle.std.proofs.Common.{ap, option_map, sym, ◌∙◌, arith, is_some, length}
use Rattle.rr_types.specs.Promises.{standing_in, take_on_all, decided_from}
use Rattle.rr_state.specs.Marked.{marked_in}
use Rattle.rr_state.proofs.PrefixLemmas.{ascending, rounds_behind, places_behind, taken_behind, skipped}
use Rattle.rr_state.proofs.MarkLemmas.{decided_in, decided_after, prefix_stays, prefix_open, prefix_is, ascend_all, undecided_none}
use Rattle.rr_state.proofs.marks.Marks.mark.Goals as goal

pub take_on_all-requires-clause-rounds : goal.take_on_all-requires-clause-rounds
take_on_all-requires-clause-rounds c = rounds_behind c.args.rows.now c.args.self.now c.args.facts.now c.requires.marks c.requires.rounds

pub take_on_all-requires-clause-places : goal.take_on_all-requires-clause-places
take_on_all-requires-clause-places c =
    places_behind c.args.rows.now c.args.self.now c.args.facts.now c.requires.marks
    (λ i f. ap (λ es. standing_in es i) (skipped c.args.rows.now c.args.self.now c.args.facts.now c.requires.marks c.requires.counted c.requires.keeps) ∙ c.requires.places i f)

pub count_on-requires-clause-begun : goal.count_on-requires-clause-begun
count_on-requires-clause-begun c = λ i l.
    ap (λ es. is_some (decided_in es i)) (taken_behind c.args.rows.now c.args.self.now c.take_on_all.new.self c.args.facts.now c.requires.marks c.take_on_all.ensures.moved c.take_on_all.ensures.value ∙ skipped c.args.rows.now c.args.self.now c.args.facts.now c.requires.marks c.requires.counted c.requires.keeps)
    ∙ prefix_stays (marked_in c.args.rows.now c.args.self.now) (take_on_all (marked_in c.args.rows.now c.args.self.now) c.args.facts.now) i (ascending c.args.rows.now c.args.self.now c.requires.marks) c.requires.keeps
    (let e = c.requires.counted.count in let p = c.take_on_all.ensures.prefix in omega (arith, e, p, l))

pub returns-else-is_longer-clause-counted : goal.returns-else-is_longer-clause-counted
returns-else-is_longer-clause-counted c =
    let es = marked_in c.args.rows.now c.args.self.now in
    let after = take_on_all es c.args.facts.now in
    let p = c.args.self.now.prefix in
    let count = c.requires.counted.count in
    let ascends = ascending c.args.rows.now c.args.self.now c.requires.marks in
    let value = taken_behind c.args.rows.now c.args.self.now c.take_on_all.new.self c.args.facts.now c.requires.marks c.take_on_all.ensures.moved c.take_on_all.ensures.value ∙ skipped c.args.rows.now c.args.self.now c.args.facts.now c.requires.marks c.requires.counted c.requires.keeps in
    let none =
    decided_after es c.args.facts.now p (prefix_open es p ascends count)
    ∙ sym c.decided_by.ensures.value ∙ ap (option_map (λ v. v.now)) (undecided_none c.decided_by.result c.is_some-is_longer.result c.is_some-is_longer.ensures c.if-is_longer.false) in
    let is =
    prefix_is after p (ascend_all es c.args.facts.now ascends)
    (λ i l. prefix_stays es after i ascends c.requires.keeps (omega (arith, count, l))) none in
    record {
      count = c.take_on_all.ensures.prefix ∙ is ∙ ap (λ entries. length (decided_from 0 entries)) (sym value);
      small = let same = c.take_on_all.ensures.prefix in let low = c.requires.counted.small in omega (arith, same, low);
    }

pub returns-else-is_longer-clause-value : goal.returns-else-is_longer-clause-value
returns-else-is_longer-clause-value c = taken_behind c.args.rows.now c.args.self.now c.take_on_all.new.self c.args.facts.now c.requires.marks c.take_on_all.ensures.moved c.take_on_all.ensures.value ∙ skipped c.args.rows.now c.args.self.now c.args.facts.now c.requires.marks c.requires.counted c.requires.keeps

pub returns-then-is_longer-clause-value : goal.returns-then-is_longer-clause-value
returns-then-is_longer-clause-value c = c.count_on.ensures.value ∙ taken_behind c.args.rows.now c.args.self.now c.take_on_all.new.self c.args.facts.now c.requires.marks c.take_on_all.ensures.moved c.take_on_all.ensures.value ∙ skipped c.args.rows.now c.args.self.now c.args.facts.now c.requires.marks c.requires.counted c.requires.keeps

pub count_on-requires-clause-moved : goal.count_on-requires-clause-moved
count_on-requires-clause-moved c = λ i l. c.requires.moved i (let e = c.take_on_all.ensures.moved in omega (arith, e, l))

pub returns-else-is_longer-clause-moved : goal.returns-else-is_longer-clause-moved
returns-else-is_longer-clause-moved c = λ i l. c.requires.moved i (let e = c.take_on_all.ensures.moved in omega (arith, e, l))
