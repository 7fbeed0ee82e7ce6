use Rattle.std.proofs.Common.{◌≡◌, ◌∙◌, ◌++◌, [], true, ap, sym, subst, List}
use Rattle.std.specs.Option.{option_map_or, IsSome}
use Rattle.rr_types.specs.declared.command.Command.{Command}
use Rattle.rr_types.specs.Groups.{Grouped}
use Rattle.rr_types.specs.Promises.{all_fit, take_on_all, decided_from}
use Rattle.rr_registry.specs.Kept.{kept_of}
use Rattle.rr_model.specs.NodeState.{NodeState, decided_prefix}
use Rattle.rr_core.specs.Kept.{IsKept}
use Rattle.rr_core.specs.Searched.{IsSearched}
use Rattle.rr_core.proofs.MarkLemmas.{fit_if, marked_kept, runs_if}
use Rattle.rr_core.proofs.SearchLemmas.{marked_searched}
use Rattle.rr_core.proofs.node_core.Core.mark_group.Goals as goal

pub invariant_of-self : goal.invariant_of-self
invariant_of-self c =
    let core = c.self.inside in
    let more = c.in_ok-more.more.items in
    let s = c.deref_mut.result.now in
    let own = sym c.deref_mut.ensures.value in
    let kept = subst (λ (x : NodeState). IsKept x core.registry) own c.self.invariant.0 in
    let run = subst (λ (x : NodeState). IsSome x.running) (c.deref.ensures ∙ own) (runs_if c.is_running_group.result c.deref.result.now c.group.result.now c.is_running_group.ensures c.if-not-is_running_group.false) in
    let longer = subst (λ (x : NodeState). decided_from 0 (take_on_all x.marked (option_map_or (λ facts. facts) x.running [])) ≡ decided_prefix x ++ more) (c.deref-2.ensures ∙ own) c.in_ok-more.ensures.ok in (
      marked_kept s c.mark_running-self-inside.new.state core.registry c.apply_all.new.self more kept run longer
          (c.in-Ok.ensures.of_list (decided_prefix s) kept.kept ∙ ap (λ (commands : List Command). kept_of (decided_prefix s ++ commands)) c.deref-3.ensures.value)
          c.mark_running-self-inside.ensures.marked,
      marked_searched core.searched.count core.searched.is_stale s c.mark_running-self-inside.new.state more longer c.mark_running-self-inside.ensures.marked run
          (subst (λ (x : NodeState). IsSearched core.searched.count core.searched.is_stale x) own c.self.invariant.1),
      c.mark_running-self-inside.ensures.mark,
    )

pub returns-in-Ok-clause-fits : goal.returns-in-Ok-clause-fits
returns-in-Ok-clause-fits c =
    let now = c.args.self.now in
    let P : Grouped → Type 0 = λ g. all_fit now.nodes now.node now.marked g.facts ≡ true in
    let kept = subst (λ (x : NodeState). IsKept x c.self.inside.registry) (sym c.deref.ensures) c.self.invariant.0 in
    subst P c.group.ensures (fit_if c.is_running_group.result c.deref.result.now now c.self.inside.registry c.group.result.now (c.deref.ensures ∙ c.self.view_is) kept c.is_running_group.ensures c.if-not-is_running_group.false)
