use Rattle.std.proofs.Common.{◌≡◌, ◌∙◌, ap, sym}
use Rattle.std.proofs.lemmas.Result.{on_ok_weaker}
use Rattle.rr_types.specs.declared.input.Input.TheVariants.{Tick}
use Rattle.rr_model.specs.NodeState.{NodeState}
use Rattle.rr_model.specs.NodeStep.{node_step}
use Rattle.rr_turn.specs.Ticks.{is_advance_due, standstill_after}
use Rattle.rr_turn.specs.Turns.{found_in}
use Rattle.rr_turn.proofs.TickLaws.{beaten, beaten_on, ok_too}
use Rattle.rr_turn.proofs.ticking.beat.Goals as goal

pub returns-then-count-clause-calls : goal.returns-then-count-clause-calls
returns-then-count-clause-calls g c =
    let k = c.args.standstill.now in
    let found : c.found_in.result ≡ found_in (node_step Tick c.args.locked.now) =
    c.found_in.ensures ∙ ap (λ (u : NodeState). found_in u) (c.core.ensures ∙ c.in_ok-tell.ensures.step.0) in
    on_ok_weaker c.advance.result
    (beaten_on g.L.Links.gives c.args.locked.now c.tell.new.locked k c.args.links.now c.tell.new.self c.advance.new.links
    (sym (ap (λ f. is_advance_due f k) found) ∙ sym c.count.ensures.due ∙ c.if-count.true) c.in_ok-tell.ensures.call c.in_ok-tell.ensures.step.0) c.advance.ensures

pub returns-then-count-clause-standstill : goal.returns-then-count-clause-standstill
returns-then-count-clause-standstill g c =
    let k = c.args.standstill.now in
    let found : c.found_in.result ≡ found_in (node_step Tick c.args.locked.now) =
    c.found_in.ensures ∙ ap (λ (u : NodeState). found_in u) (c.core.ensures ∙ c.in_ok-tell.ensures.step.0) in
    ok_too c.advance.result (c.count.ensures.count ∙ ap (λ f. standstill_after f k) found)

pub returns-else-count-clause-calls : goal.returns-else-count-clause-calls
returns-else-count-clause-calls g c =
    let k = c.args.standstill.now in
    let found : c.found_in.result ≡ found_in (node_step Tick c.args.locked.now) =
    c.found_in.ensures ∙ ap (λ (u : NodeState). found_in u) (c.core.ensures ∙ c.in_ok-tell.ensures.step.0) in
    beaten g.L.Links.gives c.args.locked.now k c.args.links.now c.tell.new.self (sym (ap (λ f. is_advance_due f k) found) ∙ sym c.count.ensures.due ∙ c.if-count.false)
    c.in_ok-tell.ensures.call

pub returns-else-count-clause-standstill : goal.returns-else-count-clause-standstill
returns-else-count-clause-standstill g c =
    let k = c.args.standstill.now in
    let found : c.found_in.result ≡ found_in (node_step Tick c.args.locked.now) =
    c.found_in.ensures ∙ ap (λ (u : NodeState). found_in u) (c.core.ensures ∙ c.in_ok-tell.ensures.step.0) in
    c.count.ensures.count ∙ ap (λ f. standstill_after f k) found
