use Rattle.std.proofs.Common.{◌∙◌}
use Rattle.std.proofs.lemmas.Result.{on_ok_weaker}
use Rattle.rr_shell.proofs.TextLemmas.{with_number}
use Rattle.rr_shell.proofs.line_text.push_no_node.Goals as goal

pub returns : goal.returns
returns c =
    record {
      ok = on_ok_weaker c.push_number_word.result
          (with_number c.args.out.now.items _ c.push_number_word.new.out.items c.push_bytes.new.out.items c.from.result c.args.nodes c.in_ok-push_bytes.ensures.ok (c.from.ensures ∙ c.count.ensures.value))
          c.push_number_word.ensures.ok;
    }
