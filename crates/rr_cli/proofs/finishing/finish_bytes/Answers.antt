use Rattle.std.proofs.Common.{List, ℕ, sym, subst, ◌∙◌}
use Rattle.rr_text.specs.Lines.{IsFault}
use Rattle.rr_text.specs.Scheduled.{IsEvent}
use Rattle.rr_text.specs.ScheduleTexts.{event_line}
use Rattle.rr_stream.specs.Streams.{Printing}
use Rattle.rr_cli.specs.Ends.{Prints}
use Rattle.rr_cli.specs.Views.{finished_so, refused}
use Rattle.rr_cli.proofs.finishing.finish_bytes.Goals as goal

pub returns-in-Err-clause-ends : goal.returns-in-Err-clause-ends
returns-in-Err-clause-ends g c = refused c.in-Err.refusal c.in-Err.ensures.fault c.end_by_fault.ensures c.finish_run.ensures.unprinted

pub returns-in-Ok-text_of-clause-ends : goal.returns-in-Ok-text_of-clause-ends
returns-in-Ok-text_of-clause-ends g c =
    let f = c.in-Ok.finish in
    let printed = c.end_by_finish.ensures.ends in
    let same = c.text_of.ensures.unprinted ∙ c.finish_run.ensures.unprinted in
    let of_text = subst (λ (text : List ℕ). Prints text printed.0 (g.O.Sink.printing c.text_of.new.out) (g.O.Sink.printing c.end_by_finish.new.out)) c.as_slice.ensures.value printed.1 in
    let from_old = subst (λ (old : Printing). Prints c.in-Ok-text_of.text.items printed.0 old (g.O.Sink.printing c.end_by_finish.new.out)) same of_text in
    finished_so f.added.items f.report.items c.in-Ok-text_of.text.items f.ending printed.0 c.in-Ok.ensures.ok c.in-Ok-text_of.ensures.ok from_old printed.2

pub returns-in-Err-text_of-clause-ends : goal.returns-in-Err-text_of-clause-ends
returns-in-Err-text_of-clause-ends g c =
    refused c.in-Err-text_of.refusal (subst (λ e. IsFault IsEvent event_line c.args.bytes.now e) (sym c.in-Err-text_of.ensures.err) tt)
    c.end_by_refusal.ensures (c.text_of.ensures.unprinted ∙ c.finish_run.ensures.unprinted)
