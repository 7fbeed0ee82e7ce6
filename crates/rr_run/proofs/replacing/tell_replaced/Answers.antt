use Rattle.std.proofs.lemmas.Result.{IfOk-weaker}
use Rattle.rr_run.proofs.ReplacingLemmas.{told_of}
use Rattle.rr_run.proofs.replacing.tell_replaced.Goals as goal

pub returns-clause-told : goal.returns-clause-told
returns-clause-told g c =
    told_of c.replaced_text.result c.text_or_end.result _ c.text_or_end.ensures.ok
    (IfOk-weaker c.replaced_text.result _ _ (λ text is. (c.args.replaced.now.count, c.args.replaced.now.aside, is)) c.replaced_text.ensures)
