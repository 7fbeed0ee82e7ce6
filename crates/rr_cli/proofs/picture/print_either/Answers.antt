use Rattle.std.proofs.Common.{◌∙◌, ap, refl, subst}
use Rattle.rr_cli.specs.Ends.{EndsOnTaped, as_schedule, as_tape, as_neither, unrecognised}
use Rattle.rr_cli.specs.Refusals.{status_of}
use Rattle.rr_cli.specs.declared.taped.TapeView.{TapeView}
use Rattle.rr_cli.proofs.picture.print_either.Goals as goal

pub returns-in-Ok-Schedule-clause-ends : goal.returns-in-Ok-Schedule-clause-ends
returns-in-Ok-Schedule-clause-ends g c = as_schedule (rw c.in-Ok-Schedule.field-0-is at c.in-Ok-Schedule.ensures) c.print_picture.ensures.ends

pub show_tape-requires : goal.show_tape-requires
show_tape-requires g c = let found = rw c.in-Ok-Tape.field-0-is at c.in-Ok-Tape.ensures in found.1

pub returns-in-Ok-Tape-clause-ends : goal.returns-in-Ok-Tape-clause-ends
returns-in-Ok-Tape-clause-ends g c =
    let found = rw c.in-Ok-Tape.field-0-is at c.in-Ok-Tape.ensures in
    as_tape c.in-Ok-Tape.tape found.0 found.1
    (subst (λ (what : TapeView). EndsOnTaped what c.args.bytes.now c.show_tape.result (g.O.Sink.printing c.args.out.now) (g.O.Sink.printing c.show_tape.new.out)) c.drawn_of_tape.ensures c.show_tape.ensures.ends)

pub returns-in-Ok-Neither-clause-ends : goal.returns-in-Ok-Neither-clause-ends
returns-in-Ok-Neither-clause-ends g c =
    let found = rw c.in-Ok-Neither.field-0-is at c.in-Ok-Neither.ensures in
    as_neither found.0 found.1 (c.end_by_fault.ensures ∙ found.2) refl

pub returns-in-Err-clause-ends : goal.returns-in-Err-clause-ends
returns-in-Err-clause-ends g c = unrecognised (c.end_by_refusal.ensures ∙ ap status_of c.in-Err.ensures) refl
