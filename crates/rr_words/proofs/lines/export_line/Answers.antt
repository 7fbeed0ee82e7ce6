use Rattle.std.proofs.lemmas.Result.{IfOk-weaker}
use Rattle.rr_words.specs.Lines.{export_line}
use Rattle.rr_words.proofs.LineLemmas.{adds_arg}
use Rattle.rr_words.proofs.lines.export_line.Goals as goal

pub returns : goal.returns
unfolding export_line
returns c = IfOk-weaker c.arg-3.result _ _ (λ r added. adds_arg (adds_arg (adds_arg c.bare_line.ensures c.in_ok-arg.ensures c.word_arg.ensures) c.in_ok-arg-2.ensures c.flag_arg.ensures) added c.flag_arg-2.ensures) c.arg-3.ensures
