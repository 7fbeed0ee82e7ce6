-- One node more is stopped where it is left out.
use Rattle.std.proofs.Common.{ℕ, ◌+◌, if◌then◌else◌, ◌∙◌, ap, sym, subst}
use Rattle.rr_types.specs.Nodes.{has_member, with_member}
use Rattle.rr_client.specs.Seating.{AreStopped}
use Rattle.rr_client.proofs.Stops.{one_more}
use Rattle.rr_client.proofs.cluster.stop_all.Goals as goal

pub nodes-preserved : goal.nodes-preserved
nodes-preserved c =
    let set = λ (n : ℕ). if has_member c.args.without n then with_member c.nodes.stopped n else c.nodes.stopped in
    subst (λ s. AreStopped (c.nodes.index + 1) c.args.without s) (sym (c.stop_left_out-stopped.ensures ∙ ap set c.in-Some.ensures.value)) (one_more c.nodes.index c.args.without c.nodes.stopped c.nodes.invariant)
