use Rattle.std.proofs.Common.{◌≡◌, false, sym, subst, List, arith, ◌∙◌}
use Rattle.rr_types.specs.declared.promise.Entry.{Entry}
use Rattle.rr_types.specs.Promises.{IsAscending}
use Rattle.rr_model.specs.NodeState.{NodeState}
use Rattle.rr_core.specs.Kept.{IsKept}
use Rattle.rr_core.specs.Marks.{mark_of}
use Rattle.rr_core.specs.Searched.{IsSearched}
use Rattle.rr_core.proofs.SearchLemmas.{not_searched}
use Rattle.rr_core.proofs.TakenLemmas.{started_kept}
use Rattle.rr_core.proofs.node_core.Core.start.Goals as goal

pub invariant_of-result : goal.invariant_of-result
invariant_of-result c =
    let P : List Entry → Type 0 = λ es. IsAscending es in
    let opened = c.args.opened.now in
    let registry = c.in-Ok.registry in
    let own = sym c.in_ok-new-in-Ok.ensures.ok in (
      subst (λ (x : NodeState). IsKept x registry) own
          (started_kept opened.nodes opened.node opened.next opened.promise registry c.in_ok-state.state
          (subst P (c.entries-entries.ensures.value ∙ c.promise.ensures) c.entries-entries.ensures.ascending) (omega arith) c.in-Ok.ensures.ok c.in_ok-state.ensures.ok),
      subst (λ (x : NodeState). IsSearched 0 false x) own (not_searched c.in_ok-state.state),
      subst (λ (x : NodeState). c.opened.result ≡ mark_of x) own (c.opened.ensures ∙ sym c.in_ok-state.ensures.mark),
    )
