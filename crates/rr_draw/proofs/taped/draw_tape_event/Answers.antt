use Rattle.std.proofs.Common.{◌∙◌, ◌++◌, ℕ, List, subst}
use Rattle.rr_draw.specs.Fates.{Seen, heard_at, Keeps}
use Rattle.rr_draw.specs.Pictures.{Adds}
use Rattle.rr_draw.proofs.taped.draw_tape_event.Goals as goal

pub returns-clause-ok : goal.returns-clause-ok
returns-clause-ok c =
    subst (λ (s : Seen). (before : List ℕ) → Keeps c.args.picture.now.heard before → Adds c.args.cut.now c.args.line before s c.args.elements.now.items c.draw_event.new.elements.items)
    (λ i. record { event = c.as_scheduled-scheduled.ensures i; lines = (c.tape_scene-scene.ensures.lines ∙ c.as_slice.ensures.value ∙ c.in_ok-lines.ensures) i; wire = c.tape_scene-scene.ensures.wire i })
    c.in_ok-draw_event.ensures.ok

pub returns-clause-keeps : goal.returns-clause-keeps
returns-clause-keeps c =
    subst (λ (s : Seen). (before : List ℕ) → Keeps c.args.picture.now.heard before → Keeps c.draw_event.new.picture.heard (before ++ heard_at s))
    (λ i. record { event = c.as_scheduled-scheduled.ensures i; lines = (c.tape_scene-scene.ensures.lines ∙ c.as_slice.ensures.value ∙ c.in_ok-lines.ensures) i; wire = c.tape_scene-scene.ensures.wire i })
    c.in_ok-draw_event.ensures.keeps
