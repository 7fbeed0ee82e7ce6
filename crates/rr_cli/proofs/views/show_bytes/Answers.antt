use Rattle.std.proofs.Common.{List, ℕ, sym, subst}
use Rattle.rr_text.specs.Lines.{IsFault}
use Rattle.rr_text.specs.Scheduled.{IsEvent}
use Rattle.rr_text.specs.ScheduleTexts.{event_line}
use Rattle.rr_cli.specs.Ends.{Prints}
use Rattle.rr_cli.specs.Views.{viewed, refused}
use Rattle.rr_cli.proofs.views.show_bytes.Goals as goal

pub returns-in-Err-clause-ends : goal.returns-in-Err-clause-ends
returns-in-Err-clause-ends g c = refused c.in-Err.refusal c.in-Err.ensures.fault c.end_by_fault.ensures c.account_on.ensures.unprinted

pub returns-in-Ok-shown_text-clause-ends : goal.returns-in-Ok-shown_text-clause-ends
returns-in-Ok-shown_text-clause-ends g c =
    let ends : Prints c.in-Ok-shown_text.text.items c.end_by_text.result (g.O.Sink.printing c.account_on.new.out) (g.O.Sink.printing c.end_by_text.new.out) =
    subst (λ (text : List ℕ). Prints text c.end_by_text.result (g.O.Sink.printing c.account_on.new.out) (g.O.Sink.printing c.end_by_text.new.out)) c.as_slice.ensures.value c.end_by_text.ensures.ends in
    viewed c.in-Ok.account c.in-Ok-shown_text.text.items c.in-Ok.ensures.ok c.in-Ok-shown_text.ensures.ok (rw c.account_on.ensures.unprinted at ends)

pub returns-clause-ends : goal.returns-clause-ends
returns-clause-ends g c =
    refused c.in-Err-shown_text.refusal (subst (λ e. IsFault IsEvent event_line c.args.bytes.now e) (sym c.in-Err-shown_text.ensures.err) tt) c.end_by_refusal.ensures c.account_on.ensures.unprinted
