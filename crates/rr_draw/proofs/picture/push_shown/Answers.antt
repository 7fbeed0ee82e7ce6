use Rattle.std.proofs.Common.{rules}
use Rattle.rr_draw.proofs.PictureLaws.{adds_element, adds_nothing}
use Rattle.rr_draw.proofs.picture.push_shown.Goals as goal

pub returns-clause-ok : goal.returns-clause-ok
returns-clause-ok c = λ before heard.
    adds_element c.args.cut.now c.args.line before (record { event = c.args.event.now; lines = c.args.scene.now.lines.now; wire = c.args.scene.now.wire.now }) c.args.elements.now.items c.push_event_element.new.elements.items c.args.arrow.now c.args.art.now.shapes.items
    (search rules) (search rules) heard (search rules)

pub returns-then-not-is_about-clause-ok : goal.returns-then-not-is_about-clause-ok
returns-then-not-is_about-clause-ok c = λ before heard.
    adds_nothing c.args.cut.now c.args.line before (record { event = c.args.event.now; lines = c.args.scene.now.lines.now; wire = c.args.scene.now.wire.now }) c.args.elements.now.items _ c.speaks-speaks.result c.speaks-speaks.ensures c.message_of-message.ensures (search rules)
