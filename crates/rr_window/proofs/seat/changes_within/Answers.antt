-- What is kept of the list that is seen tells what was made of the list that was watched up to.
use Rattle.std.proofs.lemmas.Result.{IfOk-weaker}
use Rattle.rr_window.proofs.Watching.{is_watched}
use Rattle.rr_window.proofs.seat.changes_within.Goals as goal

pub returns : goal.returns
returns c =
    let prefix = c.args.prefix.now in
    let old = c.args.position.now.list in
    let new = c.args.seen.now in
    let recent = c.args.recent.now.items in
    IfOk-weaker c.changes_behind.result _ _
    (λ v told. is_watched prefix new.book old new.list recent c.count.result v.items told c.count.ensures c.requires.recent c.begins.ensures c.requires.reach)
    c.changes_behind.ensures
