use Rattle.std.proofs.Common.{sym, subst}
use Rattle.rr_cli.specs.Views.{EndsOnText}
use Rattle.rr_cli.specs.declared.taped.TextAs.{TextAs}
use Rattle.rr_cli.proofs.taped.show_text.Goals as goal

pub returns-in-Schedule-clause-ends : goal.returns-in-Schedule-clause-ends
returns-in-Schedule-clause-ends g c =
    subst (λ (kind : TextAs). EndsOnText kind c.args.how c.args.bytes.now c.show_bytes.result (g.O.Sink.printing c.args.out.now) (g.O.Sink.printing c.show_bytes.new.out)) (sym c.in-Schedule.is) c.show_bytes.ensures.ends

pub returns-in-Tape-clause-ends : goal.returns-in-Tape-clause-ends
returns-in-Tape-clause-ends g c =
    subst (λ (kind : TextAs). EndsOnText kind c.args.how c.args.bytes.now c.show_tape_bytes.result (g.O.Sink.printing c.args.out.now) (g.O.Sink.printing c.show_tape_bytes.new.out)) (sym c.in-Tape.is) c.show_tape_bytes.ensures.ends

pub returns-in-Either-clause-ends : goal.returns-in-Either-clause-ends
returns-in-Either-clause-ends g c =
    subst (λ (kind : TextAs). EndsOnText kind c.args.how c.args.bytes.now c.show_either.result (g.O.Sink.printing c.args.out.now) (g.O.Sink.printing c.show_either.new.out)) (sym c.in-Either.is) c.show_either.ensures.ends
