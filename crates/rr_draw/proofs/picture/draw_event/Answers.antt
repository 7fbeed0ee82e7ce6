use Rattle.std.proofs.Common.{ℕ, List, Option, subst, sym}
use Rattle.rr_types.specs.declared.message.Message.{Message}
use Rattle.rr_draw.specs.Fates.{heard_by, IsHearing}
use Rattle.rr_draw.proofs.picture.draw_event.Goals as goal

pub returns-clause-ok : goal.returns-clause-ok
returns-clause-ok c = λ before keeps.
    c.in_ok-push_shown.ensures.ok before
    (subst (λ (t : List ℕ). IsHearing c.args.cut.now before (heard_by c.args.event.now c.args.scene.now.lines.now c.args.scene.now.wire.now) t) (sym c.as_slice-arrow.ensures.value)
    (subst (λ (o : Option (ℕ × Message)). IsHearing c.args.cut.now before o c.in_ok-arrow.arrow.items) c.heard_by-heard.ensures (c.in_ok-arrow.ensures.ok before keeps)))
