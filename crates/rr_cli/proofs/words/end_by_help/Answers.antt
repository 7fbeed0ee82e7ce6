use Rattle.std.proofs.Common.{refl, subst, ◌∙◌}
use Rattle.rr_cli.specs.Ends.{Prints, helped, unhelped}
use Rattle.rr_cli.proofs.words.end_by_help.Goals as goal

pub returns-in-Ok-clause-ends : goal.returns-in-Ok-clause-ends
returns-in-Ok-clause-ends g c =
    let (front, is) = c.in-Ok.ensures in
    helped front (subst (λ text. Prints text c.end_by_text.result (g.O.Sink.printing c.args.out.now) (g.O.Sink.printing c.end_by_text.new.out)) (c.as_bytes.ensures.value ∙ is) c.end_by_text.ensures.ends)

pub returns-in-Err-clause-ends : goal.returns-in-Err-clause-ends
returns-in-Err-clause-ends g c = unhelped c.end_by_refusal.ensures refl
