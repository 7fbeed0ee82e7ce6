use Rattle.rr_draw.proofs.FateLaws.{hearing_drawn}
use Rattle.rr_draw.proofs.picture.draw_heard.Goals as goal

pub returns-clause-ok : goal.returns-clause-ok
returns-clause-ok c = λ before keeps.
    hearing_drawn c.args.cut.now before c.args.number c.args.message.now c.kind-kind.result c.in_ok-fate.fate c.ends-ends.result.from c.ends-ends.result.to c.in_ok-text.text.items
    c.kind-kind.ensures (c.in_ok-fate.ensures.fate before keeps) c.ends-ends.ensures.from c.ends-ends.ensures.to c.in_ok-text.ensures
