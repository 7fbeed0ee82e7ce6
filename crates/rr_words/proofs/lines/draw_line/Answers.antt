use Rattle.std.proofs.lemmas.Result.{IfOk-weaker}
use Rattle.rr_words.specs.Lines.{draw_line}
use Rattle.rr_words.proofs.LineLemmas.{adds_arg}
use Rattle.rr_words.proofs.lines.draw_line.Goals as goal

pub returns : goal.returns
unfolding draw_line
returns c = IfOk-weaker c.arg-8.result _ _ (λ r added. adds_arg (adds_arg (adds_arg (adds_arg (adds_arg (adds_arg (adds_arg (adds_arg c.bare_line.ensures c.in_ok-arg.ensures c.word_arg.ensures) c.in_ok-arg-2.ensures c.optional_number_arg.ensures) c.in_ok-arg-3.ensures c.optional_number_arg-2.ensures) c.in_ok-arg-4.ensures c.optional_number_arg-3.ensures) c.in_ok-arg-5.ensures c.optional_number_arg-4.ensures) c.in_ok-arg-6.ensures c.flag_arg.ensures) c.in_ok-arg-7.ensures c.flag_arg-2.ensures) added c.flag_arg-3.ensures) c.arg-8.ensures
