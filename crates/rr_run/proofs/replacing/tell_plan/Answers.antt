use Rattle.std.proofs.lemmas.Result.{IfOk-weaker}
use Rattle.rr_run.proofs.ReplacingLemmas.{told_of}
use Rattle.rr_run.proofs.replacing.tell_plan.Goals as goal

pub returns-clause-told : goal.returns-clause-told
returns-clause-told g c =
    told_of c.planned_text.result c.text_or_end.result _ c.text_or_end.ensures.ok
    (IfOk-weaker c.planned_text.result _ _ (λ text is. (c.args.plan.now.decided, c.args.plan.now.bound.least, c.args.plan.now.aside, is)) c.planned_text.ensures)
