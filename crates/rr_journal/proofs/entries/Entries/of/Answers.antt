use Rattle.std.proofs.Common.{ap, subst, ◌∙◌, List, ℕ}
use Rattle.std.specs.Ordering.{nat_cmp}
use Rattle.std.specs.BTreeMap.{insert_entry}
use Rattle.rr_types.specs.declared.promise.Entry.{Entry}
use Rattle.rr_journal.specs.Entries.{AreFirst}
use Rattle.rr_journal.proofs.EntryLemmas.{taken, parted_at_gap, front_ascends}
use Rattle.rr_journal.proofs.entries.Entries.of.Goals as goal

pub has_gap-requires : goal.has_gap-requires
has_gap-requires c = rw c.deref.ensures.value (front_ascends c.args.entries.items c.loop-front.front.items c.loop-front.beyond.entries c.requires c.loop-front.invariant)

pub loop-front-preserved : goal.loop-front-preserved
loop-front-preserved c =
    let number = c.number-number.ensures.value ∙ ap (λ (e : Entry). e.instance) c.entry.view_is in
    let made = c.in_ok-put.ensures ∙ ap (λ (k : ℕ). insert_entry nat_cmp c.loop-front.beyond.entries k c.in-Some.entry) number in
    taken c.args.entries.items c.loop-front.front.items c.pop.new.self.items c.loop-front.beyond.entries c.put.new.beyond.entries c.in-Some.entry c.requires c.loop-front.invariant c.in-Some.ensures.items made

pub returns : goal.returns
returns c = c.loop-front.invariant.same

pub invariant_of-result : goal.invariant_of-result
invariant_of-result c =
    let first = subst (λ (ys : List Entry). AreFirst 0 ys) c.deref.ensures.value (c.has_gap.ensures.gap c.loop-front-test.false) in
    parted_at_gap c.args.entries.items c.loop-front.front.items c.loop-front.beyond.entries c.requires c.loop-front.invariant first
