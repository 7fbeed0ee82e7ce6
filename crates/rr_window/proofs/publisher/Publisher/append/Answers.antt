use Rattle.std.proofs.Common.{drop}
use Rattle.rr_window.proofs.Showing.{entered_all, appended_one}
use Rattle.rr_window.proofs.publisher.Publisher.append.Goals as goal

pub invariant_of-self : goal.invariant_of-self
invariant_of-self g c =
    let i = c.self.invariant in
    let e = c.enter.ensures in
    let all = entered_all g.W.WindowName.book c.self.inside.writer.desk.shown.value (drop c.self.inside.writer.behind c.self.inside.writer.log.items) c.self.inside.waiting.items c.self.inside.whole c.enter.new.waiting.items c.enter.new.whole c.args.command c.enter.result i.0 i.1 i.2 e.list e.ok e.kept in
    (all.0, all.1, all.2)

pub returns-clause-ok : goal.returns-clause-ok
returns-clause-ok g c =
    let i = c.self.invariant in
    let e = c.enter.ensures in
    let all = entered_all g.W.WindowName.book c.self.inside.writer.desk.shown.value (drop c.self.inside.writer.behind c.self.inside.writer.log.items) c.self.inside.waiting.items c.self.inside.whole c.enter.new.waiting.items c.enter.new.whole c.args.command c.enter.result i.0 i.1 i.2 e.list e.ok e.kept in
    appended_one c.enter.result _ _ _ c.args.self.now c.args.command c.self.view_is all.3
