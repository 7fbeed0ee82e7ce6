use Rattle.std.proofs.lemmas.Result.{IfOk-weaker}
use Rattle.rr_words.specs.Lines.{show_line}
use Rattle.rr_words.proofs.LineLemmas.{adds_arg}
use Rattle.rr_words.proofs.lines.show_line.Goals as goal

pub returns : goal.returns
unfolding show_line
returns c = IfOk-weaker c.arg-2.result _ _ (λ r added. adds_arg (adds_arg c.bare_line.ensures c.in_ok-arg.ensures c.word_arg.ensures) added c.flag_arg.ensures) c.arg-2.ensures
