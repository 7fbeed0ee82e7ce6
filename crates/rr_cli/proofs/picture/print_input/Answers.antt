use Rattle.std.proofs.Common.{subst}
use Rattle.rr_cli.specs.Ends.{EndsOnDrawn, read}
use Rattle.rr_cli.proofs.ReadLemmas.{unread_status, unread_ends}
use Rattle.rr_cli.proofs.picture.print_input.Goals as goal

pub returns-in-Err-clause-ends : goal.returns-in-Err-clause-ends
returns-in-Err-clause-ends g c =
    unread_ends _ (g.I.Source.reading c.args.input.now) (g.I.Source.reading c.read_all.new.input) c.end_by_stream.result _ (unread_status _ (g.I.Source.reading c.args.input.now) (g.I.Source.reading c.read_all.new.input) c.end_by_stream.result c.in-Err.ensures.cause c.end_by_stream.ensures.memory c.end_by_stream.ensures.status)

pub returns-in-Ok-clause-ends : goal.returns-in-Ok-clause-ends
returns-in-Ok-clause-ends g c =
    read c.in-Ok.bytes.items c.in-Ok.ensures.all
    (subst (λ bytes. EndsOnDrawn c.args.is_tape c.args.html c.args.cut.now bytes c.print_drawn.result (g.O.Sink.printing c.args.out.now) (g.O.Sink.printing c.print_drawn.new.out)) c.as_slice.ensures.value c.print_drawn.ensures.ends)
