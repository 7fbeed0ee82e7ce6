use Rattle.std.proofs.Common.{List, ℕ, subst, ap, ◌∙◌}
use Rattle.rr_cli.specs.Refusals.{status_of}
use Rattle.rr_cli.specs.Ends.{Prints, drawn, cut_off}
use Rattle.rr_cli.proofs.random_schedule.print_random.Goals as goal

pub returns-in-Ok-clause-ends : goal.returns-in-Ok-clause-ends
returns-in-Ok-clause-ends g c =
    let ends : Prints c.in-Ok.text.items c.end_by_text.result (g.O.Sink.printing c.text_in_form.new.out) (g.O.Sink.printing c.end_by_text.new.out) =
    subst (λ (text : List ℕ). Prints text c.end_by_text.result (g.O.Sink.printing c.text_in_form.new.out) (g.O.Sink.printing c.end_by_text.new.out)) c.as_slice.ensures.value c.end_by_text.ensures.ends in
    drawn c.in-Ok.text.items c.if-numbers.false c.in-Ok.ensures.ok (rw c.text_in_form.ensures.unprinted at ends)

pub returns-in-Err-clause-ends : goal.returns-in-Err-clause-ends
returns-in-Err-clause-ends g c = cut_off (c.end_by_refusal.ensures ∙ ap status_of c.in-Err.ensures.err) c.text_in_form.ensures.unprinted
