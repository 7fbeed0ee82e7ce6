use Rattle.std.proofs.Common.{sym, ap, ◌∙◌, take}
use Rattle.std.specs.Prelude.{slice_get}
use Rattle.rr_model.specs.NodeState.{NodeState, decided_prefix}
use Rattle.rr_registry.specs.Kept.{kept_of}
use Rattle.rr_core.proofs.MarkLemmas.{take_next}
use Rattle.rr_core.proofs.prefix.registry_of_prefix.Goals as goal

pub loop-place-preserved : goal.loop-place-preserved
loop-place-preserved c =
    let prefix = decided_prefix c.args.state.now in
    let next = c.in-Some.ensures ∙ ap (λ (s : NodeState). slice_get (decided_prefix s) c.loop-place.place) c.state.view_is in
    (c.in-Ok.ensures.of_list (take c.loop-place.place prefix) c.loop-place.invariant).0
    ∙ ap kept_of (sym (take_next prefix c.loop-place.place c.in-Some.command next))
