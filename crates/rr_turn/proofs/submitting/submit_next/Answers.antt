use Rattle.std.proofs.Common.{refl, subst}
use Rattle.rr_turn.specs.Asked.{notices}
use Rattle.rr_turn.proofs.submitting.submit_next.Goals as goal

pub returns-then-not-is_wanted : goal.returns-then-not-is_wanted
returns-then-not-is_wanted g c =
    (c.is_wanted.new.self, subst (λ b. g.L.Links.gives c.args.links.now (notices b) c.is_wanted.new.self) c.if-not-is_wanted.true c.is_wanted.ensures, (refl, refl))

pub returns : goal.returns
returns g c =
    let did = c.in_ok-submitted.submitted in (
      c.is_wanted.new.self,
      subst (λ b. g.L.Links.gives c.args.links.now (notices b) c.is_wanted.new.self) c.if-not-is_wanted.false c.is_wanted.ensures,
      (did.count, did.receivers.woken, c.submit_in_order.new.links, c.ring_each.new.links, c.in_ok-submitted.ensures, c.ring_each.ensures, c.pass_submits.ensures),
    )
