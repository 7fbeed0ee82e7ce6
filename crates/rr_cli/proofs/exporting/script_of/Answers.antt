use Rattle.std.proofs.lemmas.Result.{IfOk-weaker}
use Rattle.rr_cli.proofs.exporting.script_of.Goals as goal

pub returns-in-Ok-export : goal.returns-in-Ok-export
returns-in-Ok-export c =
    record {
      text = IfOk-weaker c.text.result _ _ (λ v is. (c.in-Ok-export.script.lines, is, c.in-Ok-export.ensures.taken, c.in-Ok-export.ensures.same)) c.text.ensures.ok;
    }
