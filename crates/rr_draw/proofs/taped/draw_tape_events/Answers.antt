use Rattle.std.proofs.Common.{◌≡◌, ◌+◌, List, ℕ, [], ◌∷◌, ◌++◌, length, take, sym, ◌∙◌, ap, subst, arith, rules}
use Rattle.std.proofs.lemmas.List.{take_more}
use Rattle.std.proofs.Math.Seq.{take-length}
use Rattle.rr_text.specs.declared.tape_event.TapeEvent.{TapeEvent}
use Rattle.rr_types.specs.declared.message.Message.{Message}
use Rattle.rr_draw.specs.Fates.{heard_at, Keeps}
use Rattle.rr_draw.specs.Pictures.{AreDrawn, Adds}
use Rattle.rr_draw.specs.TapePictures.{seen_on, all_on}
use Rattle.rr_draw.proofs.TapeLaws.{drawn_none, drawn_more}
use Rattle.rr_draw.proofs.taped.draw_tape_events.Goals as goal

pub loop-event-init : goal.loop-event-init
loop-event-init c = drawn_none c.args.cut.now c.args.wire.now.items _ c.args.picture.now.heard c.requires.unsent c.new-elements.ensures.items c.requires.unheard

pub loop-event-preserved : goal.loop-event-preserved
loop-event-preserved c =
    let es = c.events-events.result.now in
    let at = c.loop-event.event-index in
    let more : take (c.loop-event.event-index + 1) c.events-events.result.now ≡ take c.loop-event.event-index c.events-events.result.now ++ c.event-item.result ∷ [] =
    take_more es at c.event-item.result c.loop-event-test.true ∙ ap (λ (x : TapeEvent). take c.loop-event.event-index c.events-events.result.now ++ x ∷ []) (sym c.event-item.is) in
    drawn_more c.args.cut.now (take at es) _ c.event-item.result c.loop-event.line _ c.loop-event.wire.items c.push_sent.new.wire.items c.loop-event.elements.items c.draw_tape_event.new.elements.items c.loop-event.picture.heard c.draw_tape_event.new.picture.heard
    c.loop-event.invariant more c.in_ok-push_sent.ensures (search rules)
    (subst (λ (w : List Message). (before : List ℕ) → Keeps c.loop-event.picture.heard before → Adds c.args.cut.now c.loop-event.line before (seen_on w c.event-item.result) c.loop-event.elements.items c.draw_tape_event.new.elements.items) c.as_slice.ensures.value c.in_ok-draw_tape_event.ensures.ok)
    (subst (λ (w : List Message). (before : List ℕ) → Keeps c.loop-event.picture.heard before → Keeps c.draw_tape_event.new.picture.heard (before ++ heard_at (seen_on w c.event-item.result))) c.as_slice.ensures.value c.in_ok-draw_tape_event.ensures.keeps)

pub returns-clause-ok : goal.returns-clause-ok
returns-clause-ok c =
    let es = c.events-events.result.now in
    let end : c.loop-event.event-index ≡ length c.events-events.result.now = omega (arith, c.loop-event-test.false, c.loop-event.auto.event-index-end) in
    let all : take c.loop-event.event-index c.events-events.result.now ≡ c.args.tape.now.events =
    ap (λ k. take k c.events-events.result.now) end ∙ take-length es ∙ c.events-events.ensures.value in
    subst (λ (xs : List TapeEvent). AreDrawn c.args.cut.now 2 [] (all_on [] xs) c.loop-event.elements.items) all c.loop-event.invariant.are_drawn
