use Rattle.std.proofs.Common.{[], ◌∷◌, None, Some, refl, sym, subst, cond}
use Rattle.rr_turn.specs.Asked.{Ran, comes, wakes_publisher, still, more}
use Rattle.rr_turn.proofs.handing.mark_next.Goals as goal

pub returns-in-None : goal.returns-in-None
returns-in-None g c = (None, refl, c.in-None.ensures)

pub returns-then-branch : goal.returns-then-branch
returns-then-branch g c =
    let gives = g.L.Links.gives in
    let did = c.in_ok-mark_in-in-Some-Ok.ensures in
    let came = subst (λ b. gives c.args.links.now (comes (Some b)) c.back.new.self) c.in-Some-Ok.field-0-is c.in-Some-Ok.ensures in (
      Some c.in-Some-Ok.synced,
      refl,
      (
        did.0,
        _,
        c.back.new.self,
        c.mark_in.new.links,
        came,
        did.1,
        subst (λ b. Ran gives (cond b (wakes_publisher ∷ []) []) c.mark_in.new.links c.wake_publisher.new.self) (sym c.if-branch.true)
            (more wakes_publisher [] c.mark_in.new.links c.wake_publisher.new.self c.wake_publisher.new.self c.wake_publisher.ensures (still c.wake_publisher.new.self)),
      ),
    )

pub returns-else-branch : goal.returns-else-branch
returns-else-branch g c =
    let gives = g.L.Links.gives in
    let did = c.in_ok-mark_in-in-Some-Ok.ensures in
    let came = subst (λ b. gives c.args.links.now (comes (Some b)) c.back.new.self) c.in-Some-Ok.field-0-is c.in-Some-Ok.ensures in (
      Some c.in-Some-Ok.synced,
      refl,
      (
        did.0,
        _,
        c.back.new.self,
        c.mark_in.new.links,
        came,
        did.1,
        subst (λ b. Ran gives (cond b (wakes_publisher ∷ []) []) c.mark_in.new.links c.mark_in.new.links) (sym c.if-branch.false) (still c.mark_in.new.links),
      ),
    )
