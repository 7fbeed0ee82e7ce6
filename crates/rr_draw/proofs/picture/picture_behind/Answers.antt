use Rattle.std.proofs.Common.{◌≤◌, ◌++◌, ℕ, List, [], refl, rules, subst}
use Rattle.rr_types.specs.declared.message.Message.{Message}
use Rattle.rr_model.specs.Sound.{IsDecidedList}
use Rattle.rr_text.specs.Lines.{nodes_line}
use Rattle.rr_sim.specs.Clusters.{Cluster, new_cluster}
use Rattle.rr_draw.specs.Pictures.{ShowsAll}
use Rattle.rr_draw.proofs.PictureLaws.{is_picture}
use Rattle.rr_draw.proofs.picture.picture_behind.Goals as goal

pub returns-clause-ok : goal.returns-clause-ok
returns-clause-ok g c =
    let from_start : ShowsAll c.args.nodes c.args.bytes.now c.args.cut.now (new_cluster c.args.nodes) c.draw_events.new.cluster [] c.draw_events.new.report.items c.in_ok-elements.elements.items =
    subst (λ (start : Cluster). ShowsAll c.args.nodes c.args.bytes.now c.args.cut.now start c.draw_events.new.cluster [] c.draw_events.new.report.items c.in_ok-elements.elements.items) c.in_ok-cluster.ensures.ok
    (subst (λ (before : List ℕ). ShowsAll c.args.nodes c.args.bytes.now c.args.cut.now c.in_ok-cluster.cluster c.draw_events.new.cluster before c.draw_events.new.report.items c.in_ok-elements.elements.items) c.new-report.ensures.items c.in_ok-elements.ensures.ok) in
    is_picture c.args.nodes (nodes_line c.args.nodes ++ c.args.bytes.now) c.args.bytes.now c.args.cut.now c.draw_events.new.cluster c.draw_events.new.report.items c.push_decided_list.new.out.items c.in_ok-elements.elements.items
    c.in_ok-text.text.items c.in_ok-back.back.items c.push_bytes-2.new.out.items c.in_ok-decided.decided.items
    (subst (λ (n : ℕ). 1 ≤ n) c.count-count.ensures.value c.count-count.ensures.range.0) (subst (λ (n : ℕ). n ≤ 7) c.count-count.ensures.value c.count-count.ensures.range.1) refl from_start
    (subst (λ (wire : List Message). IsDecidedList c.args.nodes wire c.in_ok-decided.decided.items) c.wire.ensures c.in_ok-decided.ensures.list)
    (search rules) (search rules)
