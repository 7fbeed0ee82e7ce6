use Rattle.std.proofs.lemmas.Result.{on_ok_weaker}
use Rattle.rr_shell.specs.Texts.{form_behind}
use Rattle.rr_shell.proofs.TextLemmas.{in_parts}
use Rattle.rr_shell.proofs.line_text.push_no_name.Goals as goal

pub returns : goal.returns
returns c =
    record {
      ok = on_ok_weaker c.push_form.result
          (in_parts c.args.out.now.items _ (form_behind c.args.word) c.push_bytes.new.out.items c.push_form.new.out.items c.in_ok-push_bytes.ensures.ok)
          c.push_form.ensures.ok;
    }
