use Rattle.std.proofs.Common.{◌≡◌, ◌-◌, ◌+◌, suc, sym, ap, ◌∙◌, subst, arith, rules}
use Rattle.std.specs.Prelude.{IfSome}
use Rattle.rr_types.specs.Nodes.{has_member}
use Rattle.rr_turn.specs.Asked.{Ran, still, rings}
use Rattle.rr_turn.specs.Turns.{rings_from}
use Rattle.rr_turn.proofs.Sends.{ring_one, ring_none}
use Rattle.rr_turn.proofs.sending.ring_each.Goals as goal
use Rattle.rr_turn.proofs.sending.ring_each.Goals.{in-Some+then-contains, in-Some+else-contains, in_default}

pub loop-index-preserved : goal.loop-index-preserved
loop-index-preserved g c =
    let gives = g.L.Links.gives in
    let i = c.loop-index.index in
    let room : 7 - i ≡ suc (7 - (i + 1)) = omega (arith, c.loop-index-test.true) in (
      omega arith,
      λ end rest. c.loop-index.invariant.1 end (subst (λ n. Ran gives (rings_from n i c.args.nodes) c.loop-index.links end) (sym room) (
          elim c.match-at.branch [
            | in-Some+then-contains w ↦ (
                let same = subst (λ o. IfSome o (λ p. p ≡ i)) w.in-Some.is c.at.ensures.value in
                ring_one gives (7 - (i + 1)) i c.args.nodes c.loop-index.links w.ring.new.self end (ap (λ p. has_member c.args.nodes p) (sym same) ∙ sym w.contains.ensures ∙ w.if-contains.true)
                (subst (λ p. gives c.loop-index.links (rings p) w.ring.new.self) same w.ring.ensures.call) (subst (λ l. Ran gives (rings_from (7 - (i + 1)) (i + 1) c.args.nodes) l end) w.links-is rest))
            | in-Some+else-contains w ↦ (
                let same = subst (λ o. IfSome o (λ p. p ≡ i)) w.in-Some.is c.at.ensures.value in
                ring_none gives (7 - (i + 1)) i c.args.nodes c.loop-index.links end (ap (λ p. has_member c.args.nodes p) (sym same) ∙ sym w.contains.ensures ∙ w.if-contains.false) (subst (λ l. Ran gives (rings_from (7 - (i + 1)) (i + 1) c.args.nodes) l end) w.links-is rest))
            | in_default w ↦ absurd (search rules)
          ])),
    )

pub returns : goal.returns
unfolding rings_from
returns g c =
    let none : 7 - c.loop-index.index ≡ 0 = omega arith in
    c.loop-index.invariant.1 c.loop-index.links (subst (λ n. Ran g.L.Links.gives (rings_from n c.loop-index.index c.args.nodes) c.loop-index.links c.loop-index.links) (sym none) (still c.loop-index.links))
