use Rattle.std.proofs.Common.{◌≡◌, IfOk, subst}
use Rattle.rr_journal.specs.declared.opening.Phase.{Phase}
use Rattle.rr_journal.specs.Calls.{after_call}
use Rattle.rr_journal.specs.Openings.{due_call}
use Rattle.rr_journal.specs.OpeningTable.{IsReadBy, OpensAny, OpensWith, GoesOnAny, GoesOnWith}
use Rattle.rr_journal.specs.Phases.{phase_of}
use Rattle.rr_journal.proofs.opening.leave.Goals as goal

pub returns-clause-rests : goal.returns-clause-rests
returns-clause-rests c old new =
    subst (λ (q : Phase). OpensAny c.args.nodes c.args.node q old → IsReadBy (due_call (phase_of q)) old c.args.read.items → new ≡ after_call (due_call (phase_of q)) old → IfOk c.go_on.result (λ next. GoesOnAny c.args.nodes c.args.node next new))
    c.replace.ensures.value (c.go_on.ensures.rests old new)

pub returns-clause-table : goal.returns-clause-table
returns-clause-table c facts old new =
    subst (λ (q : Phase). OpensWith c.args.nodes c.args.node facts q old → IsReadBy (due_call (phase_of q)) old c.args.read.items → new ≡ after_call (due_call (phase_of q)) old → IfOk c.go_on.result (λ next. GoesOnWith c.args.nodes c.args.node facts next new))
    c.replace.ensures.value (c.go_on.ensures.table facts old new)
