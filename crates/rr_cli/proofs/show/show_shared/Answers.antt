use Rattle.std.proofs.Common.{refl, subst}
use Rattle.rr_cli.specs.Ends.{Prints}
use Rattle.rr_cli.proofs.ShowLemmas.{text_ends, refusal_ends}
use Rattle.rr_cli.proofs.show.show_shared.Goals as goal

pub returns-in-Ok-clause-ends : goal.returns-in-Ok-clause-ends
returns-in-Ok-clause-ends g c =
    text_ends c.args.form c.in-Ok.text c.end_by_text.result (g.O.Sink.printing c.args.out.now) (g.O.Sink.printing c.end_by_text.new.out) c.in-Ok.ensures
    (subst (λ text. Prints text c.end_by_text.result (g.O.Sink.printing c.args.out.now) (g.O.Sink.printing c.end_by_text.new.out)) c.as_slice.ensures.value c.end_by_text.ensures.ends)

pub returns-in-Err-clause-ends : goal.returns-in-Err-clause-ends
returns-in-Err-clause-ends g c =
    refusal_ends c.args.form c.in-Err.refusal c.end_by_folder_fault.result (g.O.Sink.printing c.args.out.now) (g.O.Sink.printing c.args.out.now) c.in-Err.ensures c.end_by_folder_fault.ensures refl
