use Rattle.std.proofs.Common.{length, ap, arith}
use Rattle.std.proofs.lemmas.Bool.{leb-false}
use Rattle.rr_types.specs.declared.promise.Entry.{Entry}
use Rattle.rr_journal.proofs.EntryLemmas.{without_gap}
use Rattle.rr_journal.proofs.entries.has_gap.Goals as goal

pub returns-clause-gap : goal.returns-clause-gap
returns-clause-gap c = λ h.
    let last = c.index-entries-count.result in
    let below = leb-false (length c.args.entries.now) c.number.result h in
    let value = c.number.ensures.value in
    without_gap c.args.entries.now last last c.requires (omega arith) c.index-entries-count.is (omega (arith, below, value, ap (λ (z : Entry). z.instance) c.last.view_is, ap (λ (z : Entry). z.instance) c.index-entries-count.is))
