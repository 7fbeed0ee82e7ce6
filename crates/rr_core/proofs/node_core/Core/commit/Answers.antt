use Rattle.std.proofs.Common.{◌≡◌, false, is_some, sym, subst, ◌∙◌, ap}
use Rattle.std.specs.List.{list_any}
use Rattle.std.proofs.lemmas.Bool.{false≢true}
use Rattle.rr_registry.specs.Kept.{kept_reply}
use Rattle.rr_model.specs.NodeState.{NodeState}
use Rattle.rr_core.specs.Steps.{Changed}
use Rattle.rr_core.specs.declared.node_core.Core.TheInside.{Inside}
use Rattle.rr_core.specs.Kept.{IsKept}
use Rattle.rr_core.specs.Marks.{mark_of}
use Rattle.rr_core.specs.Searched.{IsSearched}
use Rattle.rr_core.specs.Taken.{CanBeTaken}
use Rattle.rr_core.proofs.MarkOfLemmas.{commit_mark}
use Rattle.rr_core.proofs.SearchLemmas.{commit_searched, stale}
use Rattle.rr_core.proofs.TakenLemmas.{commit_kept}
use Rattle.rr_core.proofs.node_core.Core.commit.Goals as goal
use Rattle.rr_core.proofs.node_core.Core.commit.Goals.{then-is_any_answered, else-is_any_answered}

-- a core that can take the changes on: the search is stale where one of the requests that wait with them has a reply
abbrev IsReady : Changed → Inside → Type 0
IsReady changes x = IsKept x.state.value x.registry × IsSearched x.searched.count x.searched.is_stale x.state.value × CanBeTaken x.state.value changes × (x.searched.is_stale ≡ false → list_any (λ q. is_some (kept_reply x.registry q)) changes.waiting ≡ false) × (x.mark ≡ mark_of x.state.value)

pub invariant_of-self : goal.invariant_of-self
invariant_of-self c =
    let changes : Changed = c.deref_mut-2.result.now in
    let boxed : changes ≡ c.args.changes.value = c.deref_mut-2.ensures.value in
    let taken : CanBeTaken c.self.inside.state.value changes = subst (λ (d : Changed). CanBeTaken c.self.inside.state.value d) (sym boxed) (subst (λ (s : NodeState). CanBeTaken s c.args.changes.value) (sym c.self.view_is) c.requires) in
    let x : Inside = c.if-is_any_answered.self-inside in
    let ready : IsReady changes x = elim c.if-is_any_answered.branch [
      | then-is_any_answered w ↦ subst (IsReady changes) (sym w.self-inside-is) (c.self.invariant.0, stale c.self.inside.searched.count c.self.inside.searched.is_stale c.self.inside.state.value c.self.invariant.1, taken, λ e. absurd (false≢true (sym e)), c.self.invariant.2)
      | else-is_any_answered w ↦ subst (IsReady changes) (sym w.self-inside-is) (c.self.invariant.0, c.self.invariant.1, taken, λ e. ap (λ (made : Changed). list_any (λ q. is_some (kept_reply c.self.inside.registry q)) made.waiting) (boxed ∙ sym c.deref.ensures ∙ sym c.behind-changes.view_is) ∙ ap (list_any (λ q. is_some (kept_reply c.self.inside.registry q))) (sym c.deref-2.ensures.value) ∙ sym c.is_any_answered.ensures ∙ w.if-is_any_answered.false, c.self.invariant.2)
    ] in
    let s = c.deref_mut.result.now in
    let own = sym c.deref_mut.ensures.value in
    let kept = subst (λ (y : NodeState). IsKept y x.registry) own ready.0 in
    let fits = subst (λ (y : NodeState). CanBeTaken y changes) own ready.2 in (
      commit_kept s c.absorb-absorbed.new.self x.registry changes c.absorb-absorbed.result fits c.absorb-absorbed.ensures.ok c.absorb-absorbed.ensures.err kept,
      commit_searched x.searched.count x.searched.is_stale s c.absorb-absorbed.new.self changes x.registry c.absorb-absorbed.result kept c.absorb-absorbed.ensures.ok c.absorb-absorbed.ensures.err ready.3
          (subst (λ (y : NodeState). IsSearched x.searched.count x.searched.is_stale y) own ready.1),
      commit_mark x.mark s c.absorb-absorbed.new.self changes c.absorb-absorbed.result c.absorb-absorbed.ensures.ok c.absorb-absorbed.ensures.err
          (subst (λ (y : NodeState). x.mark ≡ mark_of y) own ready.4),
    )
