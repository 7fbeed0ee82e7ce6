use Rattle.std.proofs.Common.{◌≡◌, ◌∙◌, ◌++◌, ◌∷◌, [], List, length, sym, ap, arith, Vec, Global}
use Rattle.std.specs.Prelude.{map}
use Rattle.std.specs.Vec.Iter.{into_iter_items}
use Rattle.std.proofs.lemmas.List.Elements.{All-push, All-head, All-rest, All-same}
use Rattle.rr_threads.specs.declared.wires.Way.{Way}
use Rattle.rr_threads.specs.declared.wires.Mail.{Mail}
use Rattle.rr_threads.specs.Ways.{named, led_to}
use Rattle.rr_threads.proofs.Places.{left_fewer}
use Rattle.rr_threads.proofs.wiring.join_rows.Goals as goal

pub loop-inbox-preserved : goal.loop-inbox-preserved
loop-inbox-preserved c =
    let l = c.loop-inbox in
    let names = named c.args.inboxes.items in
    let mail : Mail = record { inbox = c.in-Some.inbox; ways = c.in-Some-pop_front.ways; kept = c.new-kept.result } in
    let rest = into_iter_items c.next.new.self in
    let rows = c.pop_front.new.self.items in
    let leads : Vec Way Global → Type 0 = λ ways. led_to ways.items ≡ names in
    let left : into_iter_items l.inbox-iterator ≡ c.in-Some.inbox ∷ rest = c.in-Some.ensures.steps.0 in
    let popped : l.rows.items ≡ c.in-Some-pop_front.ways ∷ rows = c.in-Some-pop_front.ensures.items in
    let pushed : c.push.new.self.items ≡ l.mails.items ++ mail ∷ [] = c.in_ok-push.ensures.items in
    let few : length l.rows.items ≡ length (into_iter_items l.inbox-iterator) = l.invariant.1 in (
      ap (λ (ms : List Mail). map (λ m. m.inbox) ms ++ rest) pushed ∙ left_fewer (λ (m : Mail). m.inbox) l.mails.items mail rest
          ∙ ap (λ is. map (λ (m : Mail). m.inbox) l.mails.items ++ is) (sym left) ∙ l.invariant.0,
      omega (arith, ap length popped, ap length left, few),
      All-rest leads c.in-Some-pop_front.ways rows l.rows.items popped l.invariant.2,
      All-same (λ (m : Mail). led_to m.ways.items ≡ names) c.push.new.self.items (l.mails.items ++ mail ∷ []) pushed
          (All-push (λ (m : Mail). led_to m.ways.items ≡ names) l.mails.items mail l.invariant.3
          (All-head leads c.in-Some-pop_front.ways rows (All-same leads (c.in-Some-pop_front.ways ∷ rows) l.rows.items (sym popped) l.invariant.2))),
    )
