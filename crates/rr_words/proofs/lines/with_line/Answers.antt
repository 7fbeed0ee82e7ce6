use Rattle.std.proofs.Common.{IfOk, subst}
use Rattle.std.proofs.lemmas.Result.{IfOk-weaker}
use Rattle.rr_words.specs.Lines.{IsLine}
use Rattle.rr_words.proofs.LineLemmas.{adds_line}
use Rattle.rr_words.proofs.lines.with_line.Goals as goal

pub returns-in-Ok : goal.returns-in-Ok
returns-in-Ok c = λ whole part reads is.
    IfOk-weaker c.subcommand.result _ _ (λ r added. adds_line reads added (subst (λ x. IfOk x (IsLine part)) c.in-Ok.is is)) c.subcommand.ensures
