use Rattle.std.proofs.Common.{List, ℕ, subst, ap, ◌∙◌}
use Rattle.rr_stream.specs.Streams.{Printing}
use Rattle.rr_cli.specs.Refusals.{status_of}
use Rattle.rr_cli.specs.Ends.{Prints, finished, cut_off}
use Rattle.rr_cli.proofs.random_schedule.print_finished.Goals as goal

pub returns-in-Ok-clause-ends : goal.returns-in-Ok-clause-ends
returns-in-Ok-clause-ends g c =
    let printed = c.end_by_finish.ensures.ends in
    let of_text = subst (λ (text : List ℕ). Prints text printed.0 (g.O.Sink.printing c.finished_text.new.out) (g.O.Sink.printing c.end_by_finish.new.out)) c.as_slice.ensures.value printed.1 in
    let from_old = subst (λ (old : Printing). Prints c.in-Ok.text.items printed.0 old (g.O.Sink.printing c.end_by_finish.new.out)) c.finished_text.ensures.unprinted of_text in
    finished c.in-Ok.text.items c.in-Ok.ending printed.0 c.requires.finish c.in-Ok.ensures.ok from_old printed.2

pub returns-in-Err-clause-ends : goal.returns-in-Err-clause-ends
returns-in-Err-clause-ends g c = cut_off (c.end_by_refusal.ensures ∙ ap status_of c.in-Err.ensures.err) c.finished_text.ensures.unprinted
