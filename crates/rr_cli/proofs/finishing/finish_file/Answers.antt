use Rattle.std.proofs.Common.{subst}
use Rattle.std.specs.Io.KnownBytes.{Keeps}
use Rattle.rr_cli.specs.Ends.{read}
use Rattle.rr_cli.specs.Views.{EndsOnFinish}
use Rattle.rr_cli.proofs.ReadLemmas.{unread_ends}
use Rattle.rr_cli.proofs.finishing.finish_file.Goals as goal

pub returns-in-Ok-clause-ends : goal.returns-in-Ok-clause-ends
returns-in-Ok-clause-ends g c =
    read c.in-Ok.bytes.items c.in-Ok.ensures.ok
    (subst (λ bytes. EndsOnFinish c.args.what bytes c.finish_bytes.result (g.O.Sink.printing c.args.out.now) (g.O.Sink.printing c.finish_bytes.new.out)) c.as_slice.ensures.value c.finish_bytes.ensures.ends)

pub returns-in-Ok-clause-quiet : goal.returns-in-Ok-clause-quiet
returns-in-Ok-clause-quiet g c = λ zero. subst (λ old. Keeps old (g.E.Write.contents c.finish_bytes.new.err)) c.in-Ok.ensures.quiet (c.finish_bytes.ensures.quiet zero)

pub returns-in-Err-clause-ends : goal.returns-in-Err-clause-ends
returns-in-Err-clause-ends g c = unread_ends _ _ _ _ _ c.in-Err.ensures.unread
