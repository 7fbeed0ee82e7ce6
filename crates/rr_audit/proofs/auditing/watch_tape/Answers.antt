use Rattle.std.proofs.Common.{◌≡◌, ◌+◌, List, [], ◌∷◌, ◌++◌, length, take, sym, ◌∙◌, ap, subst, arith}
use Rattle.std.proofs.lemmas.List.{take_more, length-take-le}
use Rattle.std.proofs.Math.Seq.{take-length}
use Rattle.rr_text.specs.declared.tape_event.TapeEvent.{TapeEvent}
use Rattle.rr_audit.specs.Following.{IsUnderWay}
use Rattle.rr_audit.proofs.auditing.watch_tape.Goals as goal

pub loop-event-preserved : goal.loop-event-preserved
loop-event-preserved g c =
    let es = c.events-events.result.now in
    let at = c.loop-event.event-index in
    let more : take (c.loop-event.event-index + 1) c.events-events.result.now ≡ take c.loop-event.event-index c.events-events.result.now ++ c.event-item.result ∷ [] =
    take_more es at c.event-item.result c.loop-event-test.true ∙ ap (λ (x : TapeEvent). take c.loop-event.event-index c.events-events.result.now ++ x ∷ []) (sym c.event-item.is) in
    let counted : length (take c.loop-event.event-index c.events-events.result.now) ≡ c.loop-event.event-index = length-take-le at es (omega (arith, c.loop-event-test.true)) in
    record {
      counted = omega (arith, c.loop-event.invariant.counted);
      under_way = subst (λ (xs : List TapeEvent). IsUnderWay c.args.tape.now.nodes xs c.follow.new.self) (sym more)
          (c.in_ok-follow.ensures.ok c.args.tape.now.nodes (take at es) (omega (arith, c.loop-event.invariant.counted, counted)) c.loop-event.invariant.under_way);
      unprinted = c.tell_step.ensures ∙ c.loop-event.invariant.unprinted;
    }

pub returns-clause-verdict : goal.returns-clause-verdict
returns-clause-verdict g c =
    let es = c.events-events.result.now in
    let end : c.loop-event.event-index ≡ length c.events-events.result.now = omega (arith, c.loop-event-test.false, c.loop-event.auto.event-index-end) in
    let all : take c.loop-event.event-index c.events-events.result.now ≡ c.args.tape.now.events =
    ap (λ k. take k c.events-events.result.now) end ∙ take-length es ∙ c.events-events.ensures.value in
    c.verdict.ensures c.args.tape.now.nodes c.args.tape.now.events (c.loop-event.invariant.counted ∙ end ∙ ap length c.events-events.ensures.value)
    (subst (λ (xs : List TapeEvent). IsUnderWay c.args.tape.now.nodes xs c.loop-event.progress) all c.loop-event.invariant.under_way)
