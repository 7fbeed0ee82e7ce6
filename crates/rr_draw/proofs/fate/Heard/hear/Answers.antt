use Rattle.rr_draw.proofs.FateLaws.{fate_is, keeps_more}
use Rattle.rr_draw.proofs.fate.Heard.hear.Goals as goal

pub returns-clause-fate : goal.returns-clause-fate
returns-clause-fate c = λ before keeps. fate_is c.args.self.now c.args.number before c.in_ok-is_new.is_new c.of_hearing.result c.in_ok-is_new.ensures.added c.of_hearing.ensures keeps

pub returns-clause-keeps : goal.returns-clause-keeps
returns-clause-keeps c = λ before keeps. keeps_more c.args.self.now _ c.args.number before c.in_ok-is_new.ensures.updates.0 keeps
