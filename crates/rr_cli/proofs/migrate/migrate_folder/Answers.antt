use Rattle.std.proofs.Common.{refl, subst}
use Rattle.rr_cli.specs.Ends.{Prints, unmigrated}
use Rattle.rr_cli.proofs.MigrateLemmas.{text_migrates}
use Rattle.rr_cli.proofs.migrate.migrate_folder.Goals as goal

pub returns-in-Ok-clause-ends : goal.returns-in-Ok-clause-ends
returns-in-Ok-clause-ends g c =
    text_migrates c.in-Ok.text c.end_by_text.result (g.O.Sink.printing c.args.out.now) (g.O.Sink.printing c.end_by_text.new.out) c.in-Ok.ensures.some
    (subst (λ text. Prints text c.end_by_text.result (g.O.Sink.printing c.args.out.now) (g.O.Sink.printing c.end_by_text.new.out)) c.as_slice.ensures.value c.end_by_text.ensures.ends)

pub returns-in-Err-clause-ends : goal.returns-in-Err-clause-ends
returns-in-Err-clause-ends g c = unmigrated c.in-Err.refusal c.in-Err.ensures.cause c.end_by_folder_fault.ensures refl
