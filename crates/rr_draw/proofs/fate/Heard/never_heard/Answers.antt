use Rattle.std.proofs.lemmas.Result.{IfOk-weaker}
use Rattle.rr_draw.proofs.FateLaws.{never_is}
use Rattle.rr_draw.proofs.fate.Heard.never_heard.Goals as goal

pub returns : goal.returns
returns c = IfOk-weaker c.not_among.result _ _ (λ lost h before keeps. never_is c.args.self.now before lost.items c.args.sent h keeps) c.not_among.ensures
