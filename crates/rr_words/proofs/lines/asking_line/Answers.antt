use Rattle.std.proofs.lemmas.Result.{IfOk-weaker}
use Rattle.rr_words.specs.Lines.{asking_line}
use Rattle.rr_words.proofs.LineLemmas.{adds_arg}
use Rattle.rr_words.proofs.lines.asking_line.Goals as goal

pub returns : goal.returns
unfolding asking_line
returns c = IfOk-weaker c.arg-4.result _ _ (λ r added. adds_arg (adds_arg (adds_arg (adds_arg c.bare_line.ensures c.in_ok-arg.ensures c.optional_number_arg.ensures) c.in_ok-arg-2.ensures c.option_arg.ensures) c.in_ok-arg-3.ensures c.optional_number_arg-2.ensures) added c.lines_arg.ensures) c.arg-4.ensures
