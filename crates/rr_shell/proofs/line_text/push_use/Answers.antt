use Rattle.std.proofs.lemmas.Result.{on_ok_weaker}
use Rattle.rr_explain.specs.ShellWords.{word_help}
use Rattle.rr_shell.specs.Texts.{example_text}
use Rattle.rr_shell.proofs.TextLemmas.{in_parts}
use Rattle.rr_shell.proofs.line_text.push_use.Goals as goal

pub returns : goal.returns
returns c =
    record {
      ok = on_ok_weaker c.push_example.result
          (in_parts c.args.out.now.items (word_help c.args.word) (example_text c.args.word) c.push_word_help.new.out.items c.push_example.new.out.items c.in_ok-push_word_help.ensures.ok)
          c.push_example.ensures.ok;
    }
