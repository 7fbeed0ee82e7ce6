use Rattle.std.proofs.Common.{◌≡◌, ◌∙◌, ◌++◌, ◌∷◌, [], List, length, suc, sym, subst, ap, arith, Vec, Global}
use Rattle.std.specs.Prelude.{map}
use Rattle.std.specs.List.{range_with_len}
use Rattle.std.specs.Vec.Iter.{into_iter_items}
use Rattle.std.proofs.lemmas.Grind.{common_steps}
use Rattle.std.proofs.lemmas.List.Elements.{All-push, All-same}
use Rattle.rr_types.specs.Nodes.{has_member}
use Rattle.rr_threads.specs.declared.beginning.Begun.{Begun}
use Rattle.rr_threads.specs.declared.wires.Mail.{Mail}
use Rattle.rr_threads.specs.Beginnings.{node_of, mail_of, is_left_out}
use Rattle.rr_threads.specs.Ways.{AreWired}
use Rattle.rr_threads.proofs.Places.{place_more, left_fewer, length_more}
use Rattle.rr_threads.proofs.run.open_parts.Goals as goal

pub loop-mail-preserved : goal.loop-mail-preserved
loop-mail-preserved g c =
    let P : Type 0 = Begun g.row.D.Denot in
    let C : Type 0 = Vec g.row.C.Denot Global in
    let l = c.loop-mail in
    let begun = c.in_ok-begun.begun in
    let one : P × C = (begun, c.in-Some-next-2.own) in
    let rest = into_iter_items c.next.new.self in
    let others = into_iter_items c.next-in-loop-mail-2.new.self in
    let left : into_iter_items l.mail-iterator ≡ c.in-Some.mail ∷ rest = c.in-Some.ensures.steps.0 in
    let disks : into_iter_items l.disks ≡ c.in-Some-next.disk ∷ into_iter_items c.next-in-loop-mail.new.self = c.in-Some-next.ensures.items in
    let clients : into_iter_items l.clients ≡ c.in-Some-next-2.own ∷ others = c.in-Some-next-2.ensures.items in
    let pushed : c.push.new.self.items ≡ l.parts.items ++ one ∷ [] = c.in_ok-push.ensures.items in
    let longer : length c.push.new.self.items ≡ suc (length l.parts.items) = ap length pushed ∙ length_more l.parts.items one in
    let is_next : node_of begun ≡ length l.parts.items = c.in_ok-begun.ensures.whose.0 ∙ c.in-Some-new.ensures.value ∙ l.invariant.5 in
    let mail : P × C → Mail = λ p. mail_of p.0 in
    let own : P × C → C = λ p. p.1 in
    let fits : P × C → Type 0 = λ p. is_left_out p.0 ≡ has_member c.args.without (node_of p.0) in
    let chosen : fits one = c.in_ok-begun.ensures.whose.2 ∙ ap (λ n. has_member c.args.without n) (sym c.in_ok-begun.ensures.whose.0) in
    let numbered : List (P × C) → Type 0 = λ ps. map (λ p. node_of p.0) ps ≡ range_with_len 0 (length ps) in (
      ap (λ ps. map mail ps ++ rest) pushed ∙ left_fewer mail l.parts.items one rest ∙ ap (λ (m : Mail). map mail l.parts.items ++ (m ∷ rest)) c.in_ok-begun.ensures.whose.1
          ∙ ap (λ ms. map mail l.parts.items ++ ms) (sym left) ∙ l.invariant.0,
      subst numbered (sym pushed) (place_more (λ (p : P × C). node_of p.0) l.parts.items one l.invariant.1 is_next),
      ap (λ ps. map own ps ++ others) pushed ∙ left_fewer own l.parts.items one others ∙ ap (λ cs. map own l.parts.items ++ cs) (sym clients) ∙ l.invariant.2,
      omega (arith, ap length disks, ap length left, l.invariant.3),
      omega (arith, ap length clients, ap length left, l.invariant.4),
      omega (arith, longer, l.invariant.5),
      omega (arith, longer, ap length left, l.invariant.6),
      All-same fits c.push.new.self.items (l.parts.items ++ one ∷ []) pushed (All-push fits l.parts.items one l.invariant.7 chosen),
    )

pub returns-clause-wired : goal.returns-clause-wired
returns-clause-wired g c =
    let all : map (λ p. mail_of p.0) c.loop-mail.parts.items ≡ c.in_ok-mails.mails.items = grind (arith, common_steps) in
    subst AreWired (sym all) c.in_ok-mails.ensures.wired
