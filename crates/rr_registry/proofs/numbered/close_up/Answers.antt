use Rattle.std.proofs.Common.{arith, ap, sym, ◌∙◌, ◌++◌, ◌∷◌, [], subst, length}
use Rattle.rr_registry.specs.Numbered.{numbered, AscendFrom, IsFirst}
use Rattle.rr_registry.proofs.NumberedLemmas.{moved}
use Rattle.rr_registry.proofs.numbered.close_up.Goals as goal

pub loop-low-preserved : goal.loop-low-preserved
loop-low-preserved g c =
    let m =
    moved c.loop-low.low.items c.loop-low.high.entries c.pop_first.new.self.entries (c.in-Some.field-0-0, c.in-Some.place)
    (subst (λ n. IsFirst n c.loop-low.high.entries) (let n = c.len.ensures in omega (arith, n)) (c.is_next.ensures c.loop-low-test.true))
    c.loop-low.invariant.from c.in-Some.ensures.removal in
    let items = c.push_reserved.ensures.items ∙ ap (λ xs. xs ++ c.in-Some.place ∷ []) c.try_reserve.ensures.items in
    record {
      same = ap (λ xs. numbered 0 xs ++ c.pop_first.new.self.entries) items ∙ m.0 ∙ c.loop-low.invariant.same;
      from = subst (λ xs. AscendFrom (length xs) c.pop_first.new.self.entries) (sym items) m.1;
    }
