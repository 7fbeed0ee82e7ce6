use Rattle.std.proofs.Common.{◌≡◌, sym, subst, Ok}
use Rattle.std.specs.Prelude.{IfErr, IfOk}
use Rattle.rr_types.specs.declared.refusal.Refusal.TheVariants.{OutOfMemory}
use Rattle.rr_journal.specs.declared.opening.Phase.{Phase}
use Rattle.rr_journal.specs.Openings.{due_call, after_opening_call}
use Rattle.rr_journal.specs.Calls.{after_call}
use Rattle.rr_journal.specs.Phases.{phase_of, Follows}
use Rattle.rr_journal.specs.OpeningTable.{IsReadBy, IsResting, Rests, OpensAny, OpensWith, GoesOnAny, GoesOnWith}
use Rattle.rr_journal.proofs.OpeningLaws.{Leads, resting, still_resting, still_rests, first_bytes, second_bytes}
use Rattle.rr_journal.proofs.opening.go_on.Goals as goal

pub returns-in-ReadingFirst-clause-rests : goal.returns-in-ReadingFirst-clause-rests
returns-in-ReadingFirst-clause-rests c old new =
    subst (λ (q : Phase). OpensAny c.args.nodes c.args.node q old → IsReadBy (due_call (phase_of q)) old c.args.read.items → new ≡ after_call (due_call (phase_of q)) old → (rests : IsResting new) × (c.args.read.items ≡ rests.start.of_first))
    (sym c.in-ReadingFirst.is)
    (λ rests read after. (still_resting old new c.args.read.items rests after, first_bytes old new c.args.read.items rests read))

pub returns-in-ReadingFirst-clause-table : goal.returns-in-ReadingFirst-clause-table
returns-in-ReadingFirst-clause-table c facts old new =
    subst (Leads c.args.nodes c.args.node facts old new c.args.read.items ((rests : Rests c.args.nodes c.args.node facts new) × (c.args.read.items ≡ rests.start.of_first))) (sym c.in-ReadingFirst.is)
    (λ rests read after. (still_rests old new c.args.read.items c.args.nodes c.args.node facts rests after, first_bytes old new c.args.read.items (resting c.args.nodes c.args.node facts old rests) read))

pub returns-in-ReadingSecond-clause-rests : goal.returns-in-ReadingSecond-clause-rests
returns-in-ReadingSecond-clause-rests c old new =
    subst (λ (q : Phase). OpensAny c.args.nodes c.args.node q old → IsReadBy (due_call (phase_of q)) old c.args.read.items → new ≡ after_call (due_call (phase_of q)) old → IfOk c.with_areas.result (λ next. GoesOnAny c.args.nodes c.args.node next new))
    (sym c.in-ReadingSecond.is)
    (λ rests read after.
    c.with_areas.ensures.rests new (still_resting old new c.args.read.items rests.0 after) rests.1
    (second_bytes old new c.args.read.items rests.0 read))

pub returns-in-ReadingSecond-clause-table : goal.returns-in-ReadingSecond-clause-table
returns-in-ReadingSecond-clause-table c facts old new =
    subst (Leads c.args.nodes c.args.node facts old new c.args.read.items (IfOk c.with_areas.result (λ next. GoesOnWith c.args.nodes c.args.node facts next new))) (sym c.in-ReadingSecond.is)
    (λ opens read after.
    c.with_areas.ensures.table facts new (still_rests old new c.args.read.items c.args.nodes c.args.node facts opens.0 after)
    opens.1
    (second_bytes old new c.args.read.items (resting c.args.nodes c.args.node facts old opens.0) read))

pub returns-in-ReadingSecond-clause-undamaged : goal.returns-in-ReadingSecond-clause-undamaged
returns-in-ReadingSecond-clause-undamaged c facts old =
    subst
    (λ (q : Phase). OpensWith c.args.nodes c.args.node facts q old → IsReadBy (due_call (phase_of q)) old c.args.read.items → IfErr c.with_areas.result (λ e. e ≡ OutOfMemory))
    (sym c.in-ReadingSecond.is)
    (λ opens read.
    c.with_areas.ensures.undamaged facts old opens.0 opens.1
    (second_bytes old old c.args.read.items (resting c.args.nodes c.args.node facts old opens.0) read))

pub returns-in-Rewriting-clause-exact : goal.returns-in-Rewriting-clause-exact
returns-in-Rewriting-clause-exact c =
    subst (λ (q : Phase). Follows (Ok c.rewrite_on.result) (phase_of q) (after_opening_call c.args.nodes c.args.node c.args.read.items (phase_of q))) (sym c.in-Rewriting.is)
    (c.rewrite_on.ensures.exact c.args.nodes c.args.node c.args.read.items)
