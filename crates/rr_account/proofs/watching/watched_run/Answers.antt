use Rattle.std.proofs.Common.{◌≡◌, ◌∙◌, ℕ, List, ap, subst, sym}
use Rattle.rr_types.specs.declared.command.Command.{Command}
use Rattle.rr_types.specs.declared.message.Message.{Message}
use Rattle.rr_model.specs.Sound.{IsDecidedList}
use Rattle.rr_text.specs.declared.event.Event.{Event}
use Rattle.rr_text.specs.Reported.{Reported}
use Rattle.rr_sim.specs.Clusters.{Cluster, new_cluster, LeadsSpelt}
use Rattle.rr_account.specs.Accounts.{AreWatched}
use Rattle.rr_account.proofs.StepLaws.{is_of_one_run, is_run_report}
use Rattle.rr_account.proofs.watching.watched_run.Goals as goal

pub returns-clause-run : goal.returns-clause-run
returns-clause-run g c =
    let schedule = c.args.schedule.now in
    let end = c.watch_events.new.cluster in
    let from : c.in_ok-cluster.cluster ≡ new_cluster schedule.nodes = c.in_ok-cluster.ensures.ok ∙ ap new_cluster c.nodes-nodes.ensures in
    is_run_report schedule c.new-2.result end c.events.ensures.valid
    (subst (λ (start : Cluster). LeadsSpelt 2 schedule.events start end) from
    (subst (λ (events : List Event). LeadsSpelt 2 events c.in_ok-cluster.cluster end) c.events.ensures.value c.in_ok-outcomes.ensures.spelt))
    (ap (λ (r : Reported). r.lines) c.new-2.ensures ∙ c.into_lines.ensures)
    (subst (λ (list : List Command). IsDecidedList schedule.nodes end.wire list) (sym (ap (λ (r : Reported). r.decided) c.new-2.ensures))
    (subst (λ (wire : List Message). IsDecidedList schedule.nodes wire c.in_ok-decided.decided.items) c.wire.ensures
    (subst (λ (n : ℕ). IsDecidedList n c.wire.result.now c.in_ok-decided.decided.items) c.nodes-nodes.ensures c.in_ok-decided.ensures.list)))

pub returns-clause-of_one_run : goal.returns-clause-of_one_run
returns-clause-of_one_run g c =
    let schedule = c.args.schedule.now in
    let end = c.watch_events.new.cluster in
    let from : c.in_ok-cluster.cluster ≡ new_cluster schedule.nodes = c.in_ok-cluster.ensures.ok ∙ ap new_cluster c.nodes-nodes.ensures in
    is_of_one_run schedule c.in_ok-outcomes.outcomes.items c.new-2.result end
    (subst (λ (start : Cluster). AreWatched 2 schedule.events c.in_ok-outcomes.outcomes.items start end) from
    (subst (λ (events : List Event). AreWatched 2 events c.in_ok-outcomes.outcomes.items c.in_ok-cluster.cluster end) c.events.ensures.value c.in_ok-outcomes.ensures.watched))
    (ap (λ (r : Reported). r.lines) c.new-2.ensures ∙ c.into_lines.ensures)
