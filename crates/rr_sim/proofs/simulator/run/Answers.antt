use Rattle.std.proofs.Common.{◌≡◌, List, ap, sym, ◌∙◌, subst}
use Rattle.rr_types.specs.declared.command.Command.{Command}
use Rattle.rr_types.specs.declared.message.Message.{Message}
use Rattle.rr_model.specs.Sound.{IsDecidedList}
use Rattle.rr_text.specs.Reported.{Reported}
use Rattle.rr_sim.proofs.HeadlineLaws.{is_world_run}
use Rattle.rr_sim.proofs.NodeLaws.{node_laws}
use Rattle.rr_sim.proofs.simulator.run.Goals as goal

same_lines : (c : goal.After-new) → c.new.result.lines ≡ c.in_ok-cluster.cluster.lines
same_lines c = ap (λ (r : Reported). r.lines) c.new.ensures ∙ c.into_lines.ensures

its_list : (c : goal.After-new) → IsDecidedList c.args.nodes c.in_ok-cluster.cluster.wire c.new.result.decided
its_list c =
    subst (λ (list : List Command). IsDecidedList c.args.nodes c.in_ok-cluster.cluster.wire list) (sym (ap (λ (r : Reported). r.decided) c.new.ensures))
    (subst (λ (wire : List Message). IsDecidedList c.args.nodes wire c.in_ok-decided.decided.items) c.wire.ensures c.in_ok-decided.ensures.list)

pub returns : goal.returns
returns c =
    record {
      world = let valid = c.requires.ranges in
          is_world_run c.args.nodes valid.0 (node_laws c.args.nodes c.requires.few) c.args.events.now c.in_ok-cluster.cluster c.new.result valid.1 c.in_ok-cluster.ensures.spelt (same_lines c) (its_list c);
    }
