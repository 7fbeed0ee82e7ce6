use Rattle.std.proofs.Common.{◌≡◌, sym, subst, ◌∙◌}
use Rattle.rr_model.specs.NodeState.{NodeState}
use Rattle.rr_core.specs.Kept.{IsKept}
use Rattle.rr_core.specs.Marks.{mark_of}
use Rattle.rr_core.proofs.MarkLemmas.{acked, acked_kept}
use Rattle.rr_core.proofs.MarkOfLemmas.{acked_mark}
use Rattle.rr_core.proofs.node_core.Core.next_ack.Goals as goal

pub invariant_of-self : goal.invariant_of-self
invariant_of-self c =
    let kept = subst (λ (x : NodeState). IsKept x c.self.inside.registry) (sym c.deref_mut.ensures.value) c.self.invariant.0 in (
      acked_kept c.deref_mut.result.now c.take_acknowledged.new.state c.self.inside.registry c.take_acknowledged.result kept c.take_acknowledged.ensures.taken,
      c.take_acknowledged.ensures.behind,
      acked_mark c.self.inside.mark c.deref_mut.result.now c.take_acknowledged.new.state c.self.inside.registry c.take_acknowledged.result c.take_acknowledged.ensures.taken
          (subst (λ (x : NodeState). c.self.inside.mark ≡ mark_of x) (sym c.deref_mut.ensures.value) c.self.invariant.2),
    )

pub returns : goal.returns
returns c =
    let kept = subst (λ (x : NodeState). IsKept x c.self.inside.registry) (sym c.deref_mut.ensures.value) c.self.invariant.0 in
    acked c.deref_mut.result.now c.take_acknowledged.new.state c.args.self.now c.self.inside.registry c.take_acknowledged.result (c.deref_mut.ensures.value ∙ c.self.view_is) kept c.take_acknowledged.ensures.taken
