use Rattle.std.proofs.Common.{◌≡◌, ◌<◌, ap, sym, subst, length, arith}
use Rattle.std.specs.Prelude.{All}
use Rattle.std.specs.List.{remove_range}
use Rattle.std.proofs.lemmas.List.Elements.{All-drop}
use Rattle.rr_state.specs.Owing.{IsOwn, Owing}
use Rattle.rr_state.proofs.OutboxLemmas.{fresh, one_left, whole}
use Rattle.rr_state.proofs.outbox.Outbox.remove.Goals as goal

pub invariant_of-self : goal.invariant_of-self
invariant_of-self c =
    let self = c.self.inside in
    let next : self.passed.next ≡ 0 = c.if-next-eq0.true in
    let order = c.self.invariant.1.0 in
    let count : self.passed.count ≡ 0 = omega (arith, next, order) in
    let all = subst (All (IsOwn self.node)) (whole self.owed.items self.passed.count self.passed.next count next) c.self.invariant.0 in
    let own = subst (All (IsOwn self.node)) (sym c.pop_front.ensures.rest) (All-drop (IsOwn self.node) 1 self.owed.items all) in
    fresh self.node c.pop_front.new.self.items self.passed.count self.passed.next self.passed.least count next own

pub invariant_of-self-then-next-count : goal.invariant_of-self-then-next-count
invariant_of-self-then-next-count c =
    let self = c.self.inside in
    let there : c.args.place ≡ self.passed.count = c.if-place-count.true in
    let long : length c.args.self.now.owed ≡ length (remove_range self.owed.items self.passed.count self.passed.next) = sym (ap (λ (o : Owing). length o.owed) c.self.view_is) in
    let asked : c.args.place < length c.args.self.now.owed = c.requires in
    one_left self.node self.owed.items self.passed.count self.passed.next self.passed.least c.self.invariant (omega (arith, there, long, asked))
