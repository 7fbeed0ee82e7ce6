use Rattle.std.proofs.Common.{◌≡◌, ◌∙◌, [], List, refl, sym, subst, ap}
use mathlib.Core.List.{IsPrefix}
use Rattle.rr_types.specs.declared.command.Command.{Command}
use Rattle.rr_model.specs.NodeState.{decided_prefix}
use Rattle.rr_window.specs.Windows.{Publishing}
use Rattle.rr_threads.proofs.publishing.publish_first.Goals as goal

pub returns : goal.returns
returns g c =
    let list = decided_prefix c.args.core.now in
    let all = c.in_ok-follow.ensures.all (subst (λ (l : List Command). IsPrefix l list) (sym c.requires) (list, refl)) in
    let shown : List Command → Publishing = λ l. record { published = l; appended = [] } in
    c.in_ok-publish.ensures.ok ∙ ap shown all
