use Rattle.std.proofs.lemmas.Result.{IfOk-weaker}
use Rattle.rr_words.specs.Lines.{run_line}
use Rattle.rr_words.proofs.LineLemmas.{adds_arg}
use Rattle.rr_words.proofs.lines.run_line.Goals as goal

pub returns : goal.returns
unfolding run_line
returns c = IfOk-weaker c.arg-7.result _ _ (λ r added. adds_arg (adds_arg (adds_arg (adds_arg (adds_arg (adds_arg (adds_arg c.bare_line.ensures c.in_ok-arg.ensures c.number_arg.ensures) c.in_ok-arg-2.ensures c.option_arg.ensures) c.in_ok-arg-3.ensures c.option_arg-2.ensures) c.in_ok-arg-4.ensures c.option_arg-3.ensures) c.in_ok-arg-5.ensures c.tick_arg.ensures) c.in_ok-arg-6.ensures c.without_arg.ensures) added c.flag_arg.ensures) c.arg-7.ensures
