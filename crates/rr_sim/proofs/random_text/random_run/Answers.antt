use Rattle.std.proofs.Common.{List, rules, subst, ◌∙◌}
use Rattle.rr_types.specs.declared.message.Message.{Message}
use Rattle.rr_model.specs.Sound.{IsDecidedList}
use Rattle.rr_text.specs.declared.event.Event.{Event}
use Rattle.rr_sim.specs.Clusters.{Cluster, new_cluster, LeadsSpelt}
use Rattle.rr_sim.specs.Random.{openings, opened}
use Rattle.rr_sim.proofs.DrawnLaws.{is_random_run}
use Rattle.rr_sim.proofs.random_text.random_run.Goals as goal

pub returns-clause-ok : goal.returns-clause-ok
returns-clause-ok g c =
    let opens : LeadsSpelt 2 (openings c.args.nodes) (new_cluster c.args.nodes) (opened c.args.nodes) =
    subst (λ (end : Cluster). LeadsSpelt 2 (openings c.args.nodes) (new_cluster c.args.nodes) end) c.in_ok-cluster.ensures.ok
    (subst (λ (events : List Event). LeadsSpelt 2 events (new_cluster c.args.nodes) c.in_ok-cluster.cluster) (c.as_slice.ensures.value ∙ c.in_ok-events.ensures.ok) c.in_ok-cluster.ensures.spelt) in
    is_random_run c.args.nodes c.args.seed c.args.steps c.seed_from_u64-generator.result c.tell_drawn-drawn.new.cluster c.in_ok-texts.texts.schedule.items c.tell_drawn-drawn.new.texts.schedule.items c.tell_drawn-drawn.new.texts.report.items
    c.push_decided_list.new.out.items c.extend_from_slice-2.new.self.items c.in_ok-decided.decided.items
    (search rules) (search rules) c.in_ok-texts.ensures.schedule opens c.in_ok-drawn.ensures.ok
    (subst (λ (wire : List Message). IsDecidedList c.args.nodes wire c.in_ok-decided.decided.items) c.wire.ensures c.in_ok-decided.ensures.list)
    (search rules) (search rules)
