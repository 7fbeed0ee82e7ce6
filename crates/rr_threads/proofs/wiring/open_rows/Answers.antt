use Rattle.std.proofs.Common.{◌≡◌, ◌∙◌, ◌++◌, ◌∷◌, [], ap, arith, length, Vec, Global}
use Rattle.std.proofs.lemmas.List.Elements.{All-push, All-same}
use Rattle.rr_threads.specs.declared.wires.Way.{Way}
use Rattle.rr_threads.specs.Ways.{named, led_to}
use Rattle.rr_threads.proofs.Places.{length_more}
use Rattle.rr_threads.proofs.wiring.open_rows.Goals as goal

pub loop-made-preserved : goal.loop-made-preserved
loop-made-preserved c =
    let l = c.loop-made in
    let ways = c.in_ok-ways_to.field-0 in
    let leads : Vec Way Global → Type 0 = λ row. led_to row.items ≡ named c.args.inboxes.now in
    let pushed : c.push_back.new.self.items ≡ l.rows.items ++ ways ∷ [] = c.in_ok-push_back.ensures.items in (
      omega arith,
      omega (arith, ap length pushed ∙ length_more l.rows.items ways, l.invariant.1),
      All-same leads c.push_back.new.self.items (l.rows.items ++ ways ∷ []) pushed (All-push leads l.rows.items ways l.invariant.2 (c.in_ok-ways_to.ensures.lead ∙ l.invariant.3)),
      c.ways_to.ensures.same ∙ l.invariant.3,
    )
