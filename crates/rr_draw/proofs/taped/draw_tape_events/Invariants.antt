use Rattle.std.proofs.Common.{take}
use Rattle.rr_draw.proofs.TapeLaws.{DrawnSoFar}
use Rattle.rr_draw.proofs.taped.draw_tape_events.Given as goal

-- the events so far are drawn
abbrev pub invariant-loop-event : goal.invariant-loop-event
invariant-loop-event l = DrawnSoFar l.cut (take l.event-index l.events) l.line l.wire.items l.elements.items l.picture.heard
