use Rattle.std.proofs.Common.{refl, subst}
use Rattle.rr_cli.specs.Ends.{Prints, exported, unexported}
use Rattle.rr_cli.proofs.exporting.print_export.Goals as goal

pub returns-in-Ok-clause-ends : goal.returns-in-Ok-clause-ends
returns-in-Ok-clause-ends g c =
    exported c.in-Ok.text.items c.requires c.in-Ok.ensures.text
    (subst (λ text. Prints text c.end_by_text.result (g.O.Sink.printing c.args.out.now) (g.O.Sink.printing c.end_by_text.new.out)) c.as_slice.ensures.value c.end_by_text.ensures.ends)

pub returns-in-Err-clause-ends : goal.returns-in-Err-clause-ends
returns-in-Err-clause-ends g c = unexported c.end_by_refusal.ensures refl
