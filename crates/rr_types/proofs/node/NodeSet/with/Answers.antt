use Rattle.std.proofs.Common.{◌≡◌, ap, sym, ◌∙◌, false}
use Rattle.rr_types.specs.Nodes.{has_member}
use Rattle.rr_types.proofs.NodeLemmas.{room_for}
use Rattle.rr_types.proofs.node.NodeSet.with.Goals as goal

pub invariant_of-result : goal.invariant_of-result
invariant_of-result c =
    let absent : has_member c.self.inside.bits c.index.result ≡ false =
    ap (λ s. has_member s c.index.result) c.self.view_is ∙ ap (λ p. has_member c.args.self p) c.index.ensures.value ∙ sym c.contains.ensures ∙ c.if-contains.false in
    room_for c.self.inside.bits c.index.result c.self.invariant c.index.ensures.range absent
