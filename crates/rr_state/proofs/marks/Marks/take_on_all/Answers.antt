use Rattle.std.proofs.Common.{ap, sym, ◌∙◌, drop, ◌+◌, arith}
use Rattle.rr_types.specs.Facts.{instance_of}
use Rattle.rr_types.specs.Promises.{standing_in, take_on_all}
use Rattle.rr_state.specs.Marked.{tree_in, facts_from}
use Rattle.rr_state.proofs.MarkLemmas.{none_taken}
use Rattle.rr_state.proofs.PrefixLemmas.{next_fact}
use Rattle.rr_state.proofs.marks.Marks.take_on_all.Goals as goal

pub take_on-requires-clause-place : goal.take_on-requires-clause-place
take_on-requires-clause-place c = λ h.
    let p = c.args.self.now.prefix in
    let f = c.fact-item.result in
    let k = c.loop-fact.fact-index in
    let here = c.if-number-self.true in
    let number = c.number.ensures.value in
    let instance = c.instance.ensures in
    let prefix = c.loop-fact.invariant.prefix in
    let next = next_fact p c.args.facts.now k f c.loop-fact-test.true c.fact-item.is (omega (arith, here, number, instance, prefix)) in
    let all = sym (ap (take_on_all (tree_in c.loop-fact.self)) next) ∙ c.loop-fact.invariant.left in
    none_taken (tree_in c.loop-fact.self) f (facts_from p (drop (k + 1) c.args.facts.now))
    (ap (λ es. standing_in es (instance_of f)) all ∙ c.requires.places (instance_of f) (sym (c.loop-fact.invariant.places (instance_of f)) ∙ h))
