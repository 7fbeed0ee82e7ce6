use Rattle.std.proofs.Common.{◌∙◌, List, ap}
use Rattle.std.specs.List.{flat_map}
use Rattle.rr_text.specs.Scheduled.{Scheduled}
use Rattle.rr_text.specs.declared.report.ReportLine.{ReportLine}
use Rattle.rr_account.specs.declared.outcome.Outcome.{Outcome}
use Rattle.rr_account.specs.Counts.{reasons_behind}
use Rattle.rr_account.specs.Decisions.{sent_on}
use Rattle.rr_account.proofs.HeardLaws.{decisions_are}
use Rattle.rr_account.proofs.decisions.decisions_of.Goals as goal

pub returns-clause-ok : goal.returns-clause-ok
returns-clause-ok c =
    let a = c.args.account.now in
    decisions_are a c.nodes-nodes.result c.events.result.now c.as_slice.result.now c.as_slice-wire.result.now c.as_slice-3.result.now c.in_ok-decided.decided.items
    (c.nodes-nodes.ensures ∙ ap (λ (s : Scheduled). s.nodes) c.schedule.ensures) c.events.ensures.value
    (c.as_slice.ensures.value ∙ c.in_ok-reasons.ensures
    ∙ ap (λ (ls : List ReportLine). reasons_behind ls 0 c.outcomes.result.now) c.lines-2.ensures ∙ ap (λ (os : List Outcome). reasons_behind a.report.lines 0 os) c.outcomes.ensures)
    (c.as_slice-wire.ensures.value ∙ c.in_ok-wire.ensures ∙ ap (λ (ls : List ReportLine). flat_map sent_on ls) c.lines.ensures)
    (c.as_slice-3.ensures.value ∙ c.in_ok-seen.ensures) c.in_ok-decided.ensures
