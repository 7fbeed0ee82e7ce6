use Rattle.std.proofs.Common.{Bool, sym, subst}
use Rattle.rr_cli.specs.Ends.{EndsOnTaped, EndsOnDrawn}
use Rattle.rr_cli.specs.declared.taped.TapeView.{TapeView}
use Rattle.rr_cli.proofs.picture.print_drawn.Goals as goal

pub returns-then-is_tape-clause-ends : goal.returns-then-is_tape-clause-ends
returns-then-is_tape-clause-ends g c =
    subst (λ (is_tape : Bool). EndsOnDrawn is_tape c.args.html c.args.cut.now c.args.bytes.now c.show_tape_bytes.result (g.O.Sink.printing c.args.out.now) (g.O.Sink.printing c.show_tape_bytes.new.out)) (sym c.if-is_tape.true)
    (subst (λ (what : TapeView). EndsOnTaped what c.args.bytes.now c.show_tape_bytes.result (g.O.Sink.printing c.args.out.now) (g.O.Sink.printing c.show_tape_bytes.new.out)) c.drawn_of_tape.ensures c.show_tape_bytes.ensures.ends)

pub returns-else-is_tape-clause-ends : goal.returns-else-is_tape-clause-ends
returns-else-is_tape-clause-ends g c =
    subst (λ (is_tape : Bool). EndsOnDrawn is_tape c.args.html c.args.cut.now c.args.bytes.now c.print_either.result (g.O.Sink.printing c.args.out.now) (g.O.Sink.printing c.print_either.new.out)) (sym c.if-is_tape.false) c.print_either.ensures.ends
