use Rattle.std.proofs.Common.{ℕ, ◌+◌, sym, subst, ◌∙◌}
use Rattle.std.specs.Ordering.{nat_cmp}
use Rattle.std.specs.BTreeMap.{BTreeMap, get}
use Rattle.rr_types.specs.declared.command.Command.{Command}
use Rattle.rr_sim.specs.Chosen.{has_ack, has_acked}
use Rattle.rr_sim.proofs.ChosenLemmas.{Finds, chosen_by_same, finds_more, finds_past, finds_all}
use Rattle.rr_sim.proofs.chosen.chosen_on.Goals as goal
use Rattle.rr_sim.proofs.chosen.chosen_on.Goals.{in-Some+in_ok-insert, in_default}

pub loop-message-preserved : goal.loop-message-preserved
loop-message-preserved c =
    let wire = c.args.wire.now in
    let at = c.loop-message.message-index in
    let message = c.message-item.result in
    let same = chosen_by_same c.args.nodes (has_acked wire) (has_ack c.in_ok-acks.acks) message.body (λ i r q. sym (c.in_ok-acks.ensures.acks i r q)) in
    let finds = λ (found : BTreeMap ℕ Command). Finds c.args.nodes wire (at + 1) (get nat_cmp found) in
    elim c.match-chosen_by.branch [
      | in-Some+in_ok-insert w ↦
          subst finds (sym w.found-is)
          (finds_more c.args.nodes wire at (get nat_cmp c.loop-message.found) (get nat_cmp w.insert.new.self) message w.in-Some.instance w.in-Some.command
          c.loop-message-test.true c.message-item.is (same ∙ sym c.chosen_by.ensures ∙ w.in-Some.is) w.in_ok-insert.ensures.updates.0 c.loop-message.invariant)
      | in_default w ↦
          subst finds (sym w.found-is)
          (finds_past c.args.nodes wire at (get nat_cmp c.loop-message.found) message c.message-item.is (same ∙ sym c.chosen_by.ensures ∙ w.in_default.is) c.loop-message.invariant)
    ]

pub returns-clause-all : goal.returns-clause-all
returns-clause-all c = finds_all c.args.nodes c.args.wire.now c.loop-message.message-index (get nat_cmp c.loop-message.found) c.loop-message-test.false c.loop-message.invariant
