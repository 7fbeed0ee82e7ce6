use Rattle.std.proofs.Common.{ap, sym, subst, ℕ}
use Rattle.std.specs.Prelude.{All}
use Rattle.rr_state.specs.Owing.{IsOwn, Owing}
use Rattle.rr_state.proofs.OutboxLemmas.{owed_more}
use Rattle.rr_state.proofs.outbox.Outbox.owe_all.Goals as goal

pub invariant_of-self : goal.invariant_of-self
invariant_of-self c =
    let self = c.self.inside in
    let own : All (IsOwn self.node) c.args.more.now = subst (λ (n : ℕ). All (IsOwn n) c.args.more.now) (sym (ap (λ (o : Owing). o.node) c.self.view_is)) c.requires in
    owed_more c.extend.result self.node self.owed.items c.args.more.now c.extend.new.owed.items self.passed.count self.passed.next self.passed.least c.extend.ensures.ok c.extend.ensures.kept c.self.invariant own
