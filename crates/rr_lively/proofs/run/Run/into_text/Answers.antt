use Rattle.std.proofs.Common.{List, rules, subst}
use Rattle.rr_types.specs.declared.message.Message.{Message}
use Rattle.rr_model.specs.Sound.{IsDecidedList}
use Rattle.rr_lively.proofs.LivelyLaws.{is_lively_run}
use Rattle.rr_lively.proofs.run.Run.into_text.Goals as goal

pub returns : goal.returns
returns c =
    record {
      ok = is_lively_run c.args.nodes c.args.self.line c.args.self.cluster c.args.self.schedule.items c.args.self.report.items c.push_decided_list.new.out.items c.extend_from_slice-2.new.self.items c.in_ok-decided.decided.items
          c.requires.some c.requires.few c.requires.line c.requires.so_far
          (subst (λ (wire : List Message). IsDecidedList c.args.nodes wire c.in_ok-decided.decided.items) c.wire.ensures c.in_ok-decided.ensures.list)
          (search rules) (search rules);
    }
