use Rattle.std.proofs.Common.{◌∙◌, ap, sym}
use Rattle.std.specs.Prelude.{slice_get}
use Rattle.std.specs.List.{list_any}
use Rattle.rr_types.specs.Registry.{is_same_request}
use Rattle.rr_model.specs.NodeState.{NodeState, decided_prefix}
use Rattle.rr_core.proofs.SearchLemmas.{searched_one}
use Rattle.rr_core.proofs.leaving.search_on.Goals as goal

pub loop-count-preserved : goal.loop-count-preserved
loop-count-preserved c = searched_one c.loop-count.count c.args.searched.is_stale c.args.state.now c.in-Some.command
    (c.in-Some.ensures ∙ ap (λ (s : NodeState). slice_get (decided_prefix s) c.loop-count.count) c.state.view_is)
    (ap (λ (s : NodeState). list_any (λ w. is_same_request w c.in-Some.command.request) s.waiting) (sym c.state.view_is) ∙ sym c.has.ensures ∙ c.if-not-has.true)
    c.loop-count.invariant
