use Rattle.std.proofs.lemmas.Result.{IfOk-weaker}
use Rattle.rr_words.specs.Lines.{random_line}
use Rattle.rr_words.proofs.LineLemmas.{adds_arg}
use Rattle.rr_words.proofs.lines.random_line.Goals as goal

pub returns : goal.returns
unfolding random_line
returns c = IfOk-weaker c.arg-5.result _ _ (λ r added. adds_arg (adds_arg (adds_arg (adds_arg (adds_arg c.in_ok-numbers_line.ensures c.in_ok-arg.ensures c.flag_arg.ensures) c.in_ok-arg-2.ensures c.optional_number_arg.ensures) c.in_ok-arg-3.ensures c.flag_arg-2.ensures) c.in_ok-arg-4.ensures c.flag_arg-3.ensures) added c.flag_arg-4.ensures) c.arg-5.ensures
