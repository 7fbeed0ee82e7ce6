use Rattle.std.proofs.Common.{arith, ap, ◌∙◌, ◌++◌, ◌∷◌, [], subst}
use Rattle.rr_journal.specs.Entries.{IsFirst}
use Rattle.rr_journal.proofs.EntryLemmas.{moved}
use Rattle.rr_journal.proofs.entries.close_up.Goals as goal

pub loop-front-preserved : goal.loop-front-preserved
loop-front-preserved c =
    let items = c.push_reserved.ensures.items ∙ ap (λ xs. xs ++ c.in-Some.entry ∷ []) c.try_reserve.ensures.items in
    let first = subst (λ n. IsFirst n c.loop-front.beyond.entries) (let n = c.len.ensures in omega (arith, n)) (c.is_next.ensures c.loop-front-test.true) in
    let m = moved c.loop-front.front.items c.push_reserved.new.self.items c.loop-front.beyond.entries c.pop_first.new.self.entries (c.in-Some.field-0-0, c.in-Some.entry) first c.loop-front.invariant.parted c.in-Some.ensures.removal items in
    record { same = m.same ∙ c.loop-front.invariant.same; parted = m.parted }
