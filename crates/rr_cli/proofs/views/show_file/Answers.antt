use Rattle.std.proofs.Common.{subst}
use Rattle.std.specs.Io.KnownBytes.{Keeps}
use Rattle.rr_cli.specs.Ends.{read}
use Rattle.rr_cli.specs.Views.{EndsOnText}
use Rattle.rr_cli.proofs.ReadLemmas.{unread_ends}
use Rattle.rr_cli.proofs.views.show_file.Goals as goal

pub returns-in-Ok-clause-ends : goal.returns-in-Ok-clause-ends
returns-in-Ok-clause-ends g c =
    read c.in-Ok.bytes.items c.in-Ok.ensures.ok
    (subst (λ bytes. EndsOnText c.args.text_as c.args.how bytes c.show_text.result (g.O.Sink.printing c.args.out.now) (g.O.Sink.printing c.show_text.new.out)) c.as_slice.ensures.value c.show_text.ensures.ends)

pub returns-in-Ok-clause-quiet : goal.returns-in-Ok-clause-quiet
returns-in-Ok-clause-quiet g c = λ zero. subst (λ old. Keeps old (g.E.Write.contents c.show_text.new.err)) c.in-Ok.ensures.quiet (c.show_text.ensures.quiet zero)

pub returns-in-Err-clause-ends : goal.returns-in-Err-clause-ends
returns-in-Err-clause-ends g c = unread_ends _ _ _ _ _ c.in-Err.ensures.unread
