use Rattle.std.proofs.Common.{◌∙◌, [], ◌∷◌, ap, subst, length}
use Rattle.rr_types.specs.declared.input.Input.TheVariants.{Hear}
use Rattle.rr_model.specs.NodeStep.{node_step}
use Rattle.std.proofs.lemmas.Result.{on_ok_weaker}
use Rattle.rr_turn.specs.declared.chase.Hearing.TheVariants.{Alone, Nothing, After, Before}
use Rattle.rr_model.specs.NodeState.{NodeState, decided_prefix}
use Rattle.rr_turn.specs.Asked.{hears, still, more}
use Rattle.rr_turn.proofs.Hears.{meets_by}
use Rattle.rr_turn.proofs.hearing.meet_chased.Goals as goal

pub returns-in-Alone-clause-calls : goal.returns-in-Alone-clause-calls
returns-in-Alone-clause-calls g c =
    let s = c.args.locked.now in
    let from = c.args.links.now in
    let to = c.hear.new.self in
    let count = c.decided_count.ensures ∙ ap (λ (u : NodeState). length (decided_prefix u)) c.core.ensures in
    on_ok_weaker c.hear.result
    (λ heard. meets_by g.L.Links.gives c.args.sent.now s c.args.chase.now Alone c.decided_count.result from to count c.in-Alone.ensures.heard
    (more (hears s c.args.sent.now) [] from to to heard (still to))) c.hear.ensures.call

pub returns-in-Nothing-clause-calls : goal.returns-in-Nothing-clause-calls
returns-in-Nothing-clause-calls g c =
    let from = c.args.links.now in
    let count = c.decided_count.ensures ∙ ap (λ (u : NodeState). length (decided_prefix u)) c.core.ensures in
    meets_by g.L.Links.gives c.args.sent.now c.args.locked.now c.args.chase.now Nothing c.decided_count.result from from count c.in-Nothing.ensures.heard (still from)

pub returns-in_ok-hear-in-After-clause-calls : goal.returns-in_ok-hear-in-After-clause-calls
returns-in_ok-hear-in-After-clause-calls g c =
    let gives = g.L.Links.gives in
    let s = c.args.locked.now in
    let sent = c.args.sent.now in
    let held = c.in-After.held in
    let from = c.args.links.now in
    let mid = c.hear-in-After.new.self in
    let to = c.hear-in-After-2.new.self in
    let count = c.decided_count.ensures ∙ ap (λ (u : NodeState). length (decided_prefix u)) c.core.ensures in
    on_ok_weaker c.hear-in-After-2.result
    (λ heard. meets_by gives sent s c.args.chase.now (After held) c.decided_count.result from to count c.in-After.ensures.heard
    (more (hears s held) (hears (node_step (Hear held.message) s) sent ∷ []) from mid to c.in_ok-hear-in-After.ensures.call
    (more (hears (node_step (Hear held.message) s) sent) [] mid to to (subst (λ (u : NodeState). gives mid (hears u sent) to) c.in_ok-hear-in-After.ensures.step heard) (still to))))
    c.hear-in-After-2.ensures.call

pub returns-in_ok-hear-in-Before-clause-calls : goal.returns-in_ok-hear-in-Before-clause-calls
returns-in_ok-hear-in-Before-clause-calls g c =
    let gives = g.L.Links.gives in
    let s = c.args.locked.now in
    let sent = c.args.sent.now in
    let next = c.in-Before.next in
    let from = c.args.links.now in
    let mid = c.hear-in-Before.new.self in
    let to = c.hear-in-Before-2.new.self in
    let count = c.decided_count.ensures ∙ ap (λ (u : NodeState). length (decided_prefix u)) c.core.ensures in
    on_ok_weaker c.hear-in-Before-2.result
    (λ heard. meets_by gives sent s c.args.chase.now (Before next) c.decided_count.result from to count c.in-Before.ensures.heard
    (more (hears s sent) (hears (node_step (Hear sent.message) s) next ∷ []) from mid to c.in_ok-hear-in-Before.ensures.call
    (more (hears (node_step (Hear sent.message) s) next) [] mid to to (subst (λ (u : NodeState). gives mid (hears u next) to) c.in_ok-hear-in-Before.ensures.step heard) (still to))))
    c.hear-in-Before-2.ensures.call
