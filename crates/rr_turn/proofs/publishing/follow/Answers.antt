use Rattle.std.proofs.Common.{◌≡◌, subst}
use mathlib.Core.List.{IsPrefix}
use Rattle.rr_model.specs.NodeState.{NodeState, decided_prefix}
use Rattle.rr_turn.specs.Listed.{listed}
use Rattle.rr_turn.proofs.Publishes.{follows_by}
use Rattle.rr_turn.proofs.publishing.follow.Goals as goal

pub returns : goal.returns
returns g c =
    let p = c.args.follower.now in
    let q = c.follow.new.self in
    follows_by g.C.Counters.gives c.args.locked.now c.acknowledge.new.locked p q c.args.counters.now c.acknowledge.new.self c.acknowledge.result
    (subst (λ (s : NodeState). IsPrefix (listed p) (decided_prefix s) → listed q ≡ decided_prefix s) c.core.ensures c.in_ok-follow.ensures.all)
    c.in_ok-follow.ensures.kept c.in_ok-follow.ensures.published c.acknowledge.ensures.call c.acknowledge.ensures.some
