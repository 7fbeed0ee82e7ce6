use Rattle.std.proofs.Common.{◌≡◌, ◌≤◌, ◌++◌, ℕ, List, [], refl, rules, subst, sym, ◌∙◌}
use Rattle.rr_types.specs.declared.message.Message.{Message}
use Rattle.rr_model.specs.Sound.{IsDecidedList}
use Rattle.rr_text.specs.Lines.{nodes_line}
use Rattle.rr_sim.specs.Clusters.{Cluster, new_cluster}
use Rattle.rr_sim.specs.Told.{TellsAll}
use Rattle.rr_sim.proofs.ToldLaws.{is_report_on}
use Rattle.rr_sim.proofs.telling.report_behind.Goals as goal

pub returns-clause-ok : goal.returns-clause-ok
returns-clause-ok g c =
    let from_start : TellsAll c.args.nodes c.args.bytes.now (new_cluster c.args.nodes) c.tell_events.new.cluster [] c.tell_events.new.text.items =
    subst (λ (start : Cluster). TellsAll c.args.nodes c.args.bytes.now start c.tell_events.new.cluster [] c.tell_events.new.text.items) c.in_ok-cluster.ensures.ok
    (subst (λ (before : List ℕ). TellsAll c.args.nodes c.args.bytes.now c.in_ok-cluster.cluster c.tell_events.new.cluster before c.tell_events.new.text.items) c.new-text.ensures.items c.in_ok-tell_events.ensures.ok) in
    is_report_on c.args.nodes (nodes_line c.args.nodes ++ c.args.bytes.now) c.args.bytes.now c.tell_events.new.cluster c.tell_events.new.text.items c.push_decided_list.new.out.items c.in_ok-decided.decided.items
    (subst (λ (n : ℕ). 1 ≤ n) c.count-count.ensures.value c.count-count.ensures.range.0) (subst (λ (n : ℕ). n ≤ 7) c.count-count.ensures.value c.count-count.ensures.range.1) refl from_start
    (subst (λ (wire : List Message). IsDecidedList c.args.nodes wire c.in_ok-decided.decided.items) (c.as_slice.ensures.value ∙ c.into_wire-wire.ensures) c.in_ok-decided.ensures.list)
    (search rules)
