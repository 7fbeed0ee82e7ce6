use Rattle.std.proofs.Common.{Bool, sym, subst}
use Rattle.rr_journal.specs.declared.opening.Phase.{Phase}
use Rattle.rr_journal.specs.Openings.{ReadingFirst, ReadingSecond}
use Rattle.rr_journal.specs.Phases.{phase_of}
use Rattle.rr_journal.proofs.OtherLaws.{Notes, first_noted, second_noted}
use Rattle.rr_journal.proofs.opening.fronts_behind.Goals as goal

pub returns-in-ReadingFirst : goal.returns-in-ReadingFirst
returns-in-ReadingFirst c old new =
    subst (λ (q : Phase). Notes c.args.fronts (record { first = c.must_close.result; second = c.args.fronts.second }) old new c.args.read.now (phase_of q)) (sym c.in-ReadingFirst.is)
    (subst (λ (b : Bool). Notes c.args.fronts (record { first = b; second = c.args.fronts.second }) old new c.args.read.now ReadingFirst) (sym c.must_close.ensures) (first_noted c.args.fronts old new c.args.read.now))

pub returns-in-ReadingSecond : goal.returns-in-ReadingSecond
returns-in-ReadingSecond c old new =
    subst (λ (q : Phase). Notes c.args.fronts (record { first = c.args.fronts.first; second = c.must_close-in-ReadingSecond.result }) old new c.args.read.now (phase_of q)) (sym c.in-ReadingSecond.is)
    (subst (λ (b : Bool). Notes c.args.fronts (record { first = c.args.fronts.first; second = b }) old new c.args.read.now (ReadingSecond c.in-ReadingSecond.field-0.items)) (sym c.must_close-in-ReadingSecond.ensures)
    (second_noted c.args.fronts old new c.args.read.now c.in-ReadingSecond.field-0.items))
