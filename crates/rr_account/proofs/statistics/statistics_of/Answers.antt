use Rattle.std.proofs.Common.{List, rules, subst}
use Rattle.rr_text.specs.declared.report.ReportLine.{ReportLine}
use Rattle.rr_account.specs.Counts.{AreRefusals}
use Rattle.rr_account.proofs.statistics.statistics_of.Goals as goal

pub returns-clause-ok : goal.returns-clause-ok
returns-clause-ok c = record {
  kinds = c.in_ok-events.ensures.kinds;
  events = c.in_ok-events.ensures.events;
  message_kinds = c.in_ok-messages.ensures.kinds;
  messages = c.in_ok-messages.ensures.messages;
  refusals = subst (λ (lines : List ReportLine). AreRefusals lines c.in_ok-refusals.refusals.items) c.lines-2.ensures c.in_ok-refusals.ensures;
  decided = search rules;
  rounds = search rules;
  calls = search rules;
}
