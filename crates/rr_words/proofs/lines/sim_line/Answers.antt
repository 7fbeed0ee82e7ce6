use Rattle.std.proofs.lemmas.Result.{IfOk-weaker}
use Rattle.rr_words.specs.Lines.{sim_line}
use Rattle.rr_words.proofs.LineLemmas.{adds_arg}
use Rattle.rr_words.proofs.lines.sim_line.Goals as goal

pub returns : goal.returns
unfolding sim_line
returns c = IfOk-weaker c.arg-2.result _ _ (λ r added. adds_arg (adds_arg c.in_ok-told_line.ensures c.in_ok-arg.ensures c.flag_arg.ensures) added c.flag_arg-2.ensures) c.arg-2.ensures
