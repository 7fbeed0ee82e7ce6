use Rattle.std.proofs.lemmas.Result.{on_ok_weaker}
use Rattle.rr_explain.specs.ShellWords.{word_help}
use Rattle.rr_shell.specs.Texts.{example_line}
use Rattle.rr_shell.proofs.TextLemmas.{in_parts}
use Rattle.rr_shell.proofs.line_text.push_use_lines.Goals as goal

pub returns : goal.returns
returns c =
    record {
      ok = on_ok_weaker c.push_example_line.result
          (in_parts c.args.out.now.items (word_help c.args.word) (example_line c.args.word) c.push_word_help.new.out.items c.push_example_line.new.out.items c.in_ok-push_word_help.ensures.ok)
          c.push_example_line.ensures.ok;
    }
