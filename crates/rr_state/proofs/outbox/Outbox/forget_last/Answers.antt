use Rattle.std.proofs.Common.{ap, sym, subst}
use Rattle.std.specs.Prelude.{All}
use Rattle.std.proofs.lemmas.List.Elements.{All-take}
use Rattle.rr_state.specs.Owing.{IsOwn}
use Rattle.rr_state.proofs.OutboxLemmas.{fresh}
use Rattle.rr_state.proofs.outbox.Outbox.forget_last.Goals as goal

pub invariant_of-self : goal.invariant_of-self
invariant_of-self c =
    let node = c.self.inside.node in
    let first = c.begin-self-inside.result in
    let all = subst (All (IsOwn node)) (sym c.begin-self-inside.ensures.items) c.self.invariant.0 in
    let own = subst (All (IsOwn node)) (sym c.truncate.ensures.items) (All-take (IsOwn node) _ _ all) in
    fresh node c.truncate.new.self.items first.count first.next first.least (ap (λ p. p.count) c.begin-self-inside.ensures.fresh) (ap (λ p. p.next) c.begin-self-inside.ensures.fresh) own
