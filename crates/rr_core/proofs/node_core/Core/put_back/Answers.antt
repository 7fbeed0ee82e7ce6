use Rattle.std.proofs.Common.{◌≡◌, sym, subst}
use Rattle.rr_model.specs.NodeState.{NodeState}
use Rattle.rr_core.specs.Kept.{IsKept}
use Rattle.rr_core.specs.Marks.{mark_of}
use Rattle.rr_core.specs.Searched.{IsSearched}
use Rattle.rr_core.proofs.MarkLemmas.{put_back_kept}
use Rattle.rr_core.proofs.MarkOfLemmas.{put_back_mark}
use Rattle.rr_core.proofs.SearchLemmas.{put_back_searched}
use Rattle.rr_core.proofs.node_core.Core.put_back.Goals as goal

pub invariant_of-self : goal.invariant_of-self
invariant_of-self c =
    let core = c.self.inside in
    let s = c.deref_mut.result.now in
    let own = sym c.deref_mut.ensures.value in (
      put_back_kept s c.put_back.new.state core.registry c.put_back.ensures (subst (λ (x : NodeState). IsKept x core.registry) own c.self.invariant.0),
      put_back_searched core.searched.count core.searched.is_stale s c.put_back.new.state c.put_back.ensures (subst (λ (x : NodeState). IsSearched core.searched.count core.searched.is_stale x) own c.self.invariant.1),
      put_back_mark core.mark s c.put_back.new.state c.put_back.ensures (subst (λ (x : NodeState). core.mark ≡ mark_of x) own c.self.invariant.2),
    )
