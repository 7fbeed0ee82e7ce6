use Rattle.std.proofs.Common.{◌≡◌, sym, subst}
use Rattle.rr_model.specs.NodeState.{NodeState}
use Rattle.rr_core.specs.Kept.{IsKept}
use Rattle.rr_core.specs.Marks.{mark_of}
use Rattle.rr_core.specs.Searched.{IsSearched}
use Rattle.rr_core.proofs.MarkLemmas.{taken_any}
use Rattle.rr_core.proofs.MarkOfLemmas.{taken_mark}
use Rattle.rr_core.proofs.SearchLemmas.{take_searched}
use Rattle.rr_core.proofs.node_core.Core.take_group.Goals as goal

pub invariant_of-self : goal.invariant_of-self
invariant_of-self c =
    let said = c.take_group.ensures in
    let core = c.self.inside in
    let s = c.deref_mut.result.now in
    let own = sym c.deref_mut.ensures.value in
    let kept = subst (λ (x : NodeState). IsKept x core.registry) own c.self.invariant.0 in
    let searched = subst (λ (x : NodeState). IsSearched core.searched.count core.searched.is_stale x) own c.self.invariant.1 in
    let t = c.take_group.new.state in (
      taken_any s t core.registry c.take_group.result said.none said.some said.there said.free said.err kept,
      take_searched core.searched.count core.searched.is_stale s t c.take_group.result said.none said.some said.err searched,
      taken_mark core.mark s t c.take_group.result said.none said.some said.err (subst (λ (x : NodeState). core.mark ≡ mark_of x) own c.self.invariant.2),
    )
