use Rattle.std.proofs.KnownBytes.{Keeps-trans}
use Rattle.std.proofs.lemmas.Result.{on_ok_weaker}
use Rattle.rr_run.proofs.replacing.replacement.Goals as goal

pub returns-clause-quiet : goal.returns-clause-quiet
returns-clause-quiet g c =
    let told = g.E.Write.contents in
    let planned = c.in_ok-survey.ensures.quiet in
    let entered = Keeps-trans (told c.args.err.now) (told c.plan_by.new.err) (told c.enter_by.new.err) planned c.in_ok-folders.ensures.quiet in
    let decided = Keeps-trans (told c.args.err.now) (told c.enter_by.new.err) (told c.decide_others.new.err) entered c.in_ok-locks.ensures.quiet in
    let renewed = Keeps-trans (told c.args.err.now) (told c.decide_others.new.err) (told c.renew.new.err) decided c.in_ok-replaced.ensures.quiet in
    on_ok_weaker c.tell_replaced.result (λ last. Keeps-trans (told c.args.err.now) (told c.renew.new.err) (told c.tell_replaced.new.err) renewed last) c.tell_replaced.ensures.quiet
