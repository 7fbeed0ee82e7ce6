use Rattle.std.proofs.Common.{refl}
use Rattle.rr_core.proofs.OpeningLaws.{started_marked}
use Rattle.rr_core.proofs.recovery.start_core.Goals as goal

pub returns-in-Ok-clause-ok : goal.returns-in-Ok-clause-ok
returns-in-Ok-clause-ok g c =
    let opened = c.args.opened in
    let is = c.in-Ok.ensures.ok in
    (is, started_marked opened.nodes opened.node opened.promise opened.next c.in-Ok.core is, refl)
