use Rattle.std.proofs.Common.{◌∙◌, ◌++◌, List, ℕ, ap}
use Rattle.std.proofs.lemmas.Result.{on_ok_weaker}
use Rattle.rr_explain.specs.ShellWords.{word_example}
use Rattle.rr_shell.proofs.TextLemmas.{in_three}
use Rattle.rr_shell.proofs.line_text.push_example_line.Goals as goal

pub returns : goal.returns
returns c =
    record {
      ok = on_ok_weaker c.push_byte.result
          (in_three c.args.out.now.items _ (word_example c.args.word) _ c.push_bytes.new.out.items c.push_bytes-2.new.out.items c.push_byte.new.out.items
          c.in_ok-push_bytes.ensures.ok
          (c.in_ok-push_bytes-2.ensures.ok ∙ ap (λ (l : List ℕ). c.push_bytes.new.out.items ++ l) (c.as_bytes.ensures.value ∙ c.example.ensures)))
          c.push_byte.ensures.ok;
    }
