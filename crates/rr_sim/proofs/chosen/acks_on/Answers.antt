use Rattle.std.proofs.Common.{ℕ, ◌+◌, ap, sym, subst, ◌∙◌}
use Rattle.std.specs.BTreeSet.{BTreeSet}
use Rattle.rr_types.specs.declared.message.Body.TheVariants.{Ack}
use Rattle.rr_sim.proofs.ChosenLemmas.{Notes, notes_more, notes_past}
use Rattle.rr_sim.proofs.chosen.acks_on.Goals as goal
use Rattle.rr_sim.proofs.chosen.acks_on.Goals.{in-Ack+in_ok-insert, in_default}

pub loop-message-preserved : goal.loop-message-preserved
loop-message-preserved c =
    let wire = c.args.wire.now in
    let next = c.loop-message.message-index + 1 in
    elim c.match-message.branch [
      | in-Ack+in_ok-insert w ↦
          let of = w.from-instance.ensures ∙ w.number.ensures.value in
          let says = w.in-Ack.is ∙ ap (λ i. Ack i w.in-Ack.round) (sym of) ∙ ap (λ r. Ack w.from-instance.result r) (sym w.number-in-Ack.ensures.value) in
          subst (λ (acks : BTreeSet (ℕ × ℕ × ℕ)). Notes wire next acks) (sym w.acks-is)
          (notes_more wire c.loop-message.message-index c.loop-message.acks w.insert.new.self c.message-item.result w.from-instance.result w.number-in-Ack.result w.index.result
          c.loop-message-test.true c.message-item.is (sym w.index.ensures.value) says (λ i r q. w.in_ok-insert.ensures.updates.0 (i, r, q)) c.loop-message.invariant)
      | in_default w ↦
          subst (λ (acks : BTreeSet (ℕ × ℕ × ℕ)). Notes wire next acks) (sym w.acks-is)
          (notes_past wire c.loop-message.message-index c.loop-message.acks c.message-item.result c.loop-message-test.true c.message-item.is w.in_default.not-Ack c.loop-message.invariant)
    ]
