use Rattle.std.proofs.lemmas.Result.{IfOk-weaker}
use Rattle.rr_words.specs.Lines.{replace_line}
use Rattle.rr_words.proofs.LineLemmas.{adds_arg}
use Rattle.rr_words.proofs.lines.replace_line.Goals as goal

pub returns : goal.returns
unfolding replace_line
returns c = IfOk-weaker c.arg-5.result _ _ (λ r added. adds_arg (adds_arg (adds_arg (adds_arg (adds_arg c.bare_line.ensures c.in_ok-arg.ensures c.word_arg.ensures) c.in_ok-arg-2.ensures c.number_arg.ensures) c.in_ok-arg-3.ensures c.without_arg.ensures) c.in_ok-arg-4.ensures c.tick_arg.ensures) added c.flag_arg.ensures) c.arg-5.ensures
