use Rattle.std.proofs.Common.{◌≡◌, ◌∙◌, List, ℕ, refl, sym, ap, subst}
use Rattle.rr_types.specs.declared.refusal.Refusal.TheVariants.{OutOfMemory}
use Rattle.rr_text.specs.Lines.{IsFault}
use Rattle.rr_text.specs.Scheduled.{IsEvent}
use Rattle.rr_text.specs.ScheduleTexts.{event_line}
use Rattle.rr_text.specs.ReportTexts.{report_text}
use Rattle.rr_cli.specs.Ends.{Prints}
use Rattle.rr_cli.specs.Views.{same, other, refused}
use Rattle.rr_cli.proofs.views.compare_bytes.Goals as goal

pub returns-in-Err-clause-ends : goal.returns-in-Err-clause-ends
returns-in-Err-clause-ends g c = refused c.in-Err.refusal c.in-Err.ensures.fault c.end_by_fault.ensures c.account_on.ensures.unprinted

pub returns-in-Err-text-clause-ends : goal.returns-in-Err-text-clause-ends
returns-in-Err-text-clause-ends g c =
    refused OutOfMemory tt c.end_by_refusal.ensures c.account_on.ensures.unprinted

pub returns-in-None-clause-ends : goal.returns-in-None-clause-ends
returns-in-None-clause-ends g c =
    let reported : c.as_slice.result.now ≡ report_text c.in-Ok.account.report = c.as_slice.ensures.value ∙ (c.in-Ok-text.ensures.ok ∙ ap report_text c.report.ensures) in
    same c.in-Ok.account c.in-Ok.ensures.ok (sym (c.difference_of.ensures.same c.in-None.is) ∙ reported) refl c.account_on.ensures.unprinted

pub returns-in-Ok-difference_text-clause-ends : goal.returns-in-Ok-difference_text-clause-ends
returns-in-Ok-difference_text-clause-ends g c =
    let reported : c.as_slice.result.now ≡ report_text c.in-Ok.account.report = c.as_slice.ensures.value ∙ (c.in-Ok-text.ensures.ok ∙ ap report_text c.report.ensures) in
    let ends : Prints c.in-Ok-difference_text.told.items c.end_by_text.result (g.O.Sink.printing c.account_on.new.out) (g.O.Sink.printing c.end_by_text.new.out) =
    subst (λ (text : List ℕ). Prints text c.end_by_text.result (g.O.Sink.printing c.account_on.new.out) (g.O.Sink.printing c.end_by_text.new.out)) c.as_slice-in-Ok-difference_text.ensures.value c.end_by_text.ensures.ends in
    other c.in-Ok.account c.in-Ok-difference_text.told.items c.end_by_text.result c.in-Ok.ensures.ok (λ is. c.in-Some.ensures.other refl (reported ∙ sym is)) (rw c.account_on.ensures.unprinted at ends) c.different.ensures

pub returns-clause-ends : goal.returns-clause-ends
returns-clause-ends g c =
    refused c.in-Err-difference_text.refusal (subst (λ e. IsFault IsEvent event_line c.args.bytes.now e) (sym c.in-Err-difference_text.ensures) tt)
    c.end_by_refusal-in-Err-difference_text.ensures c.account_on.ensures.unprinted
