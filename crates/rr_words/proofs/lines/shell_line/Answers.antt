use Rattle.std.proofs.lemmas.Result.{IfOk-weaker}
use Rattle.rr_words.specs.Lines.{shell_line}
use Rattle.rr_words.proofs.LineLemmas.{adds_arg}
use Rattle.rr_words.proofs.lines.shell_line.Goals as goal

pub returns : goal.returns
unfolding shell_line
returns c = IfOk-weaker c.arg-4.result _ _ (λ r added. adds_arg (adds_arg (adds_arg (adds_arg c.in_ok-asking_line.ensures c.in_ok-arg.ensures c.tick_arg.ensures) c.in_ok-arg-2.ensures c.without_arg.ensures) c.in_ok-arg-3.ensures c.flag_arg.ensures) added c.flag_arg-2.ensures) c.arg-4.ensures
