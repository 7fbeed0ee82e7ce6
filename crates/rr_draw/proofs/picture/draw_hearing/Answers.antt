use Rattle.rr_draw.proofs.picture.draw_hearing.Goals as goal

pub returns-clause-ok : goal.returns-clause-ok
returns-clause-ok c = λ before keeps. rw c.in-Some.is (c.in_ok-text.ensures.ok before keeps)
