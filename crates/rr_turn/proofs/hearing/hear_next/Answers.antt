use Rattle.std.proofs.Common.{true, false, refl, subst}
use Rattle.std.proofs.lemmas.Result.{IfOk-weaker}
use Rattle.rr_turn.specs.Asked.{sees}
use Rattle.rr_turn.proofs.hearing.hear_next.Goals as goal

pub returns-then-is_idle : goal.returns-then-is_idle
returns-then-is_idle g c =
    (true, c.is_idle.new.self, subst (λ b. g.L.Links.gives c.args.links.now (sees b) c.is_idle.new.self) c.if-is_idle.true c.is_idle.ensures, (refl, refl, refl))

pub returns : goal.returns
returns g c =
    let saw = subst (λ b. g.L.Links.gives c.args.links.now (sees b) c.is_idle.new.self) c.if-is_idle.false c.is_idle.ensures in
    IfOk-weaker c.hear_in.result _ _ (λ has h. (false, c.is_idle.new.self, saw, h)) c.hear_in.ensures
