use Rattle.std.proofs.Common.{◌∙◌, ap, length}
use Rattle.rr_model.specs.NodeState.{NodeState, decided_prefix}
use Rattle.rr_turn.proofs.TickLaws.{again_ran}
use Rattle.rr_turn.proofs.ticking.hear_again.Goals as goal

pub returns-clause-calls : goal.returns-clause-calls
returns-clause-calls g c =
    let count = c.decided_count-decided.ensures ∙ ap (λ (s : NodeState). length (decided_prefix s)) c.core.ensures in
    again_ran g.L.Links.gives c.args.locked.now c.args.chase.now c.decided_count-decided.result c.again.result c.args.links.now c.hear_any.new.links count c.again.ensures.again
    c.in_ok-hear_any.ensures.calls
